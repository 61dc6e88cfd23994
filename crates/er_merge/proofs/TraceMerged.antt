-- The texts of the reports of all parts of a trace: what is merged of them is what is printed for the report of the trace.
use Rattle.std.proofs.Common.{◌≡◌, ℕ, ◌≤◌, true, false, cond, List, [], ◌∷◌, ◌++◌, flat_map, length, map, sum, slice_index, Option, Some, None, Ok, refl, sym, ap, subst, ◌∙◌, arith}
use Rattle.std.specs.List.{All, range_with_len}
use Rattle.std.proofs.lemmas.List.Elements.{All-cons, All-head, All-nil, All-tail}
use Rattle.er_parts.specs.Given.{part_report}
use Rattle.er_parts.specs.Merged.{HasEachPart, in_order, may_precede, merged, put}
use Rattle.er_parts.proofs.Reasons.{same-reasons}
use Rattle.er_parts.proofs.TextOrder.{trace-ordered}
use Rattle.er_parts.proofs.Whole.{merged-is}
use Rattle.er_parts.specs.Parts.{part_at}
use Rattle.er_print.specs.Printed.{report_text}
use Rattle.er_report.specs.Lines.{LineView}
use Rattle.er_report.specs.Report.{Summary, answered_steps}
use Rattle.er_merge.specs.Merging.{Merges}
use Rattle.er_merge.specs.Texts.{ArePartTexts, HasPlainNames, IsPartText, all_lines}
use Rattle.er_merge.specs.Traces.{AreTextsOfParts, Divided, IsTextOfPart, report_of_part, whole_report}
use Rattle.er_merge.specs.declared.merging.Merged.{Merged}
use Rattle.er_merge.proofs.PartCounts.{part_counts_fit}
use Rattle.er_merge.proofs.ReportLemmas.{merged_races, merged_text}
use Rattle.er_merge.proofs.TraceLines.{IsLine, all_lines_given, lines_fit, lines_follow}
use Rattle.er_merge.proofs.TraceNames.{plain_names}
use Rattle.er_merge.proofs.TraceSteps.{All-front}

-- the same report, with other lost events
abbrev told_by : Option ℕ → Summary → Summary
told_by lost s = record s { lost = lost }

same_field : {X : Type 0} (f : Summary → X) (lost : Option ℕ) (reports : List Summary) → ((s : Summary) → f (told_by lost s) ≡ f s) → map f (map (told_by lost) reports) ≡ map f reports
same_field f lost [] same = refl
same_field f lost (s ∷ reports) same = λ i. same s i ∷ same_field f lost reports same i

same_lines : (lost : Option ℕ) (reports : List Summary) → flat_map (λ (s : Summary). s.lines) (map (told_by lost) reports) ≡ flat_map (λ (s : Summary). s.lines) reports
same_lines lost [] = refl
same_lines lost (s ∷ reports) = ap (λ lines. s.lines ++ lines) (same_lines lost reports)

same_values : (f g : ℕ → ℕ) (xs : List ℕ) → ((x : ℕ) → f x ≡ g x) → map f xs ≡ map g xs
same_values f g [] same = refl
same_values f g (x ∷ xs) same = λ i. same x i ∷ same_values f g xs same i

merged_told : (lost : Option ℕ) (s : Summary) (reports : List Summary) → merged (map (told_by lost) (s ∷ reports)) ≡ told_by lost (merged (s ∷ reports))
merged_told lost s reports =
    let lines = ap in_order (same_lines lost (s ∷ reports)) in
    let counts = same_values (λ j. sum (map (λ (r : Summary). slice_index r.rule_counts j) (map (told_by lost) (s ∷ reports)))) (λ j. sum (map (λ (r : Summary). slice_index r.rule_counts j) (s ∷ reports)))
    (range_with_len 0 (length s.rule_counts)) (λ j. ap sum (same_field (λ (r : Summary). slice_index r.rule_counts j) lost (s ∷ reports) (λ r. refl))) in
    let steps = ap sum (same_field (λ (r : Summary). r.steps) lost (s ∷ reports) (λ r. refl)) in
    let races = ap sum (same_field (λ (r : Summary). r.races) lost (s ∷ reports) (λ r. refl)) in
    let suppressed = ap sum (same_field (λ (r : Summary). r.suppressed) lost (s ∷ reports) (λ r. refl)) in
    let refused = ap sum (same_field (λ (r : Summary). r.refused) lost (s ∷ reports) (λ r. refl)) in
    λ i. record {
      lines = lines i;
      stop = None;
      rule_counts = counts i;
      steps = steps i;
      races = races i;
      suppressed = suppressed i;
      refused = refused i;
      lost = lost;
    }

-- the report of a part, but for the lost events
abbrev plain_report : Divided → ℕ → Summary
plain_report d i = part_report (Some (part_at d.count i)) d.trace d.rules d.explain

told_reports : (d : Divided) (lost : Option ℕ) (parts : List ℕ) → map (λ i. told_by lost (plain_report d i)) parts ≡ map (told_by lost) (map (plain_report d) parts)
told_reports d lost [] = refl
told_reports d lost (i ∷ parts) = ap (λ (reports : List Summary). told_by lost (plain_report d i) ∷ reports) (told_reports d lost parts)

told_all : (d : Divided) (lost : Option ℕ) (parts : List ℕ) → HasEachPart d.count parts → 1 ≤ d.count → merged (map (told_by lost) (map (plain_report d) parts)) ≡ told_by lost (merged (map (plain_report d) parts))
told_all d lost [] each some = absurd (omega (arith, each 1 (omega arith) some))
told_all d lost (i ∷ parts) each some = merged_told lost (plain_report d i) (map (plain_report d) parts)

-- what is true of lines in order is true of the lines
put_back : (P : LineView → Type 0) (line : LineView) (lines : List LineView) → All P (put line lines) → P line × All P lines
unfolding put
put_back P line [] all = (All-head P line [] all, All-nil P)
put_back P line (other ∷ lines) all =
    (elim (may_precede line other) as (λ b. All P (cond b (line ∷ other ∷ lines) (other ∷ put line lines)) → P line × All P (other ∷ lines)) [
      | true ↦ λ first. (All-head P line (other ∷ lines) first, All-tail P line (other ∷ lines) first)
      | false ↦ λ second. let rest = put_back P line lines (All-tail P other (put line lines) second) in (rest.0, All-cons P other lines (All-head P other (put line lines) second) rest.1)
    ]) all

order_back : (P : LineView → Type 0) (lines : List LineView) → All P (in_order lines) → All P lines
unfolding in_order
order_back P [] all = All-nil P
order_back P (line ∷ lines) all = let parts = put_back P line (in_order lines) all in All-cons P line lines parts.0 (order_back P lines parts.1)

pub All-back : {X : Type 0} (P : X → Type 0) (xs ys : List X) → All P (xs ++ ys) → All P ys
All-back P [] ys all = all
All-back P (x ∷ xs) ys all = All-back P xs ys (All-tail P x (xs ++ ys) all)

module _ (d : Divided) (parts : List ℕ) (about texts : ℕ → List ℕ) (are : AreTextsOfParts d parts about texts) where
  pub plain : HasPlainNames d.trace.names
  plain = plain_names d.text are.limit d.trace are.trace

  abbrev pub IsOne : LineView → Type 0
  IsOne = IsLine d.text are.limit d.trace are.trace are.counted.bytes d.rules d.explain

  pub whole : merged (map (report_of_part d) parts) ≡ whole_report d
  whole =
      ap merged (told_reports d (whole_report d).lost parts) ∙ told_all d (whole_report d).lost parts are.each are.some
      ∙ ap (told_by (whole_report d).lost) (merged-is d.trace d.rules d.explain d.count parts are.each are.some (trace-ordered d.text are.limit d.trace are.trace) (λ i. same-reasons (part_at d.count i) d.trace d.rules d.explain))

  pub whole_lines : All IsOne (whole_report d).lines
  whole_lines = all_lines_given d.text are.limit d.trace are.trace are.counted.bytes d.rules d.explain (length (answered_steps d.trace.steps None))

  pub lines_are : All IsOne (all_lines (map (report_of_part d) parts))
  lines_are = order_back IsOne (all_lines (map (report_of_part d) parts)) (subst (All IsOne) (sym (ap (λ (s : Summary). s.lines) whole)) whole_lines)

  -- the text of one part
  abbrev pub text_of_part : (i : ℕ) → IsTextOfPart d i (about i) (texts i) → All IsOne (report_of_part d i).lines → IsPartText d.trace.names (report_of_part d i) (texts i)
  text_of_part i printed lines = record {
    heading = record { part = i; parts = d.count; about = about i };
    line = printed.line;
    one = printed.one;
    says = printed.names_it;
    is = printed.is;
    lines = lines_fit d.text are.limit d.trace are.trace are.counted.bytes d.rules d.explain (report_of_part d i).lines lines;
    counts = part_counts_fit d i are.counted;
  }

  texts_by : (ps : List ℕ) → All (λ (i : ℕ). IsTextOfPart d i (about i) (texts i)) ps → All IsOne (all_lines (map (report_of_part d) ps)) → ArePartTexts d.trace.names (map (report_of_part d) ps) (map texts ps)
  texts_by [] printed lines = tt
  texts_by (i ∷ ps) printed lines = (
    text_of_part i (All-head (λ (i : ℕ). IsTextOfPart d i (about i) (texts i)) i ps printed) (All-front IsOne (report_of_part d i).lines (all_lines (map (report_of_part d) ps)) lines),
    texts_by ps (All-tail (λ (i : ℕ). IsTextOfPart d i (about i) (texts i)) i ps printed) (All-back IsOne (report_of_part d i).lines (all_lines (map (report_of_part d) ps)) lines),
  )

  pub texts_are : ArePartTexts d.trace.names (map (report_of_part d) parts) (map texts parts)
  texts_are = texts_by parts are.printed lines_are

  pub trace_merged : (made : Merged) → Merges (map texts parts) (Ok made) → (made.text.items ≡ report_text d.trace.names (whole_report d)) × (made.counts.races ≡ (whole_report d).races)
  trace_merged made merges =
      let follow = lines_follow d.text are.limit d.trace are.trace are.counted.bytes d.rules d.explain d.trace.names (all_lines (map (report_of_part d) parts)) lines_are in (
        merged_text d.trace.names (map (report_of_part d) parts) (map texts parts) made plain texts_are follow merges ∙ ap (report_text d.trace.names) whole,
        merged_races d.trace.names (map (report_of_part d) parts) (map texts parts) made plain texts_are merges ∙ ap (λ (s : Summary). s.races) whole,
      )

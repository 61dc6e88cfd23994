-- The counts of a part's report have 64 bits, if the steps of the trace and the rules can be counted so.
use Rattle.std.proofs.Common.{◌≡◌, ℕ, zero, suc, ◌+◌, ◌<◌, ◌≤◌, ◌^◌, ◌==◌, Bool, true, false, ◌&&◌, cond, nat_lt, not, List, [], ◌∷◌, filter, count_by, length, sum, get_or, slice_index, codes, Option, Some, None, is_some, unwrap_or, refl, sym, ap, subst, ◌∙◌, arith}
use Rattle.std.specs.List.{All, list_all, range_with_len}
use Rattle.std.specs.Char.{is_digit}
use Rattle.std.specs.Str.{bytes_eq}
use Rattle.std.specs.Str.Parse.{digits_value}
use Rattle.std.proofs.lemmas.Bool.Decides.{nat_tests}
use Rattle.std.proofs.lemmas.List.Elements.{All-map}
use Rattle.std.proofs.lemmas.List.FromFn.{length-map-range_with_len}
use Rattle.std.proofs.lemmas.List.Sums.{sum_by-cons}
use Rattle.er_event.specs.declared.steps.Step.{Step}
use Rattle.er_lines.specs.Lines.{Placed, before_space, behind_space, has_bytes, is_comment, placed}
use Rattle.er_lines.specs.Number.{value_in}
use Rattle.er_model.specs.Answers.{answer}
use Rattle.er_parts.specs.Given.{is_refusal, part_report}
use Rattle.er_parts.specs.Parts.{PartView, is_of_page, kept, part_at, takes}
use Rattle.er_parts.proofs.PartReport.{part-races, part-refused, part-rule_counts, part-steps, part-suppressed}
use Rattle.er_report.specs.Report.{Summary, count_below, is_rule, matching_rule_at, report_of, rule_count}
use Rattle.er_report.proofs.LawLemmas.{counts-sum}
use Rattle.er_rules.specs.Rules.{Target}
use Rattle.er_text.specs.Ending.{comment_after, comment_past, if_any_lost, is_text_3, lost_behind, lost_if, lost_in, lost_of, lost_told}
use Rattle.er_text.specs.declared.endings.Lost.{Lost}
use Rattle.er_trace.specs.Trace.{Recording}
use Rattle.er_merge.specs.Texts.{CountsFit, Fits, lost_number}
use Rattle.er_merge.specs.Traces.{Divided, IsCountable, report_of_part}
use Rattle.er_merge.proofs.TraceSteps.{few_kept}

-- how many events were lost

value_step : (a : Bool) (v : ℕ) (b : Bool) → nat_lt v (2 ^ 64) ≡ b → Fits (unwrap_or (cond (a && b) (Some v) None) 0)
value_step true v true e = grind (arith, nat_tests, e)
value_step true v false e = omega arith
value_step false v b e = omega arith

value_fits : (digits : List ℕ) → Fits (unwrap_or (value_in 10 digits) 0)
value_fits digits = value_step (has_bytes digits && list_all (λ digit. is_digit digit 10) digits) (digits_value 10 digits) (nat_lt (digits_value 10 digits) (2 ^ 64)) refl

if_fits : (b : Bool) (n : ℕ) → Fits n → Fits (cond b n 0)
if_fits true n fit = fit
if_fits false n fit = omega arith

behind_fits : (bytes : List ℕ) → Fits (lost_behind bytes)
behind_fits bytes =
    let lost = behind_space (behind_space bytes) in
    if_fits (is_some (value_in 10 (before_space bytes)) && bytes_eq (before_space (behind_space bytes)) (codes "events,") && bytes_eq (behind_space lost) (codes "lost"))
    (unwrap_or (value_in 10 (before_space lost)) 0) (value_fits (before_space lost))

lost_fits : (bytes : List ℕ) → Fits (lost_in bytes)
lost_fits bytes =
    let word = behind_space bytes in
    if_fits (bytes_eq (before_space bytes) (codes "#") && bytes_eq (before_space word) (codes "incomplete:")) (lost_behind (behind_space word)) (behind_fits (behind_space word))

abbrev LostFits : Option Lost → Type 0
LostFits None = Unit {0}
LostFits (Some lost) = Fits lost.events

past_fits : (last : Option Lost) (number : ℕ) (bytes : List ℕ) → LostFits last → LostFits (comment_past last number bytes)
past_fits last number bytes fit =
    elim (is_comment bytes) as (λ b. LostFits (cond b (Some (record { line = number; events = lost_in bytes })) last)) [ true ↦ lost_fits bytes | false ↦ fit ]

comments_fit : (last : Option Lost) (ps : List Placed) → LostFits last → LostFits (comment_after last ps)
comments_fit last [] fit = fit
comments_fit last (p ∷ ps) fit = comments_fit (comment_past last p.number p.line.bytes) ps (past_fits last p.number p.line.bytes fit)

any_fits : (last : Option Lost) → LostFits last → LostFits (if_any_lost last)
any_fits None fit = tt
any_fits (Some lost) fit = elim (nat_lt 0 lost.events) as (λ b. LostFits (cond b (Some lost) None)) [ true ↦ fit | false ↦ tt ]

told_fits : (third : Bool) (last : Option Lost) → LostFits last → Fits (lost_number (lost_if third last))
told_fits third None fit = omega arith
told_fits true (Some lost) fit = fit
told_fits false (Some lost) fit = omega arith

pub lost_small : (text : List ℕ) → Fits (lost_number (lost_told text))
lost_small text = told_fits (is_text_3 text) (lost_of text) (any_fits (comment_after None (placed text)) (comments_fit None (placed text) tt))

-- counts of steps

pub count_le : (test : ℕ → Bool) (n : ℕ) → count_below test n ≤ n
unfolding count_below
count_le test zero = omega arith
count_le test (suc n) =
    let before = count_le test n in
    elim (test n) as (λ b. count_below test n + cond b 1 0 ≤ suc n) [ true ↦ omega (arith, before) | false ↦ omega (arith, before) ]

few_counted : (test : ℕ → Bool) (n count : ℕ) → Fits n → count ≡ count_below test n → Fits count
few_counted test n count few is = omega (arith, few, is, count_le test n)

-- a part's report, by whether it is the first one
abbrev given_so : Bool → List Step → Summary → Summary
given_so b steps report = cond b report (record report { lines = filter (λ line. not (is_refusal line)) report.lines; steps = count_by is_of_page steps; refused = 0 })

so_stop : (b : Bool) (steps : List Step) (report : Summary) → (given_so b steps report).stop ≡ report.stop
so_stop true steps report = refl
so_stop false steps report = refl

so_suppressed : (b : Bool) (steps : List Step) (report : Summary) → (given_so b steps report).suppressed ≡ report.suppressed
so_suppressed true steps report = refl
so_suppressed false steps report = refl

module _ (r : Recording) (rules : List Target) (explain : Bool) (part : PartView) where
  abbrev its_steps : List Step
  its_steps = filter (takes part) r.steps

  abbrev its_report : Summary
  its_report = report_of (kept (Some part) r) rules explain None

  abbrev its_count : ℕ → ℕ
  its_count = rule_count (answer its_steps) (kept (Some part) r) rules (length its_steps)

  stop_none : (part_report (Some part) r rules explain).stop ≡ None
  stop_none = so_stop (part.index == 1) its_steps its_report

  pub rules_are : length (part_report (Some part) r rules explain).rule_counts ≡ length rules
  rules_are = ap length (part-rule_counts part r rules explain) ∙ length-map-range_with_len its_count 0 (length rules)

  counts_small : Fits (length r.steps) → All Fits (part_report (Some part) r rules explain).rule_counts
  counts_small few =
      subst (All Fits) (sym (part-rule_counts part r rules explain))
      (All-map Fits its_count (range_with_len 0 (length rules)) (λ k d within.
      few_counted (λ j. is_rule (get_or (range_with_len 0 (length rules)) k d) (matching_rule_at (kept (Some part) r) rules j)) (length its_steps) _
      (let less = few_kept (takes part) r.steps in omega (arith, few, less)) refl))

  counts_fit : (lost : Option ℕ) → Fits (length r.steps) → 1 + length rules < 2 ^ 64 → Fits (lost_number lost) → CountsFit (record (part_report (Some part) r rules explain) { lost = lost })
  counts_fit lost few some small = record {
    ended = stop_none;
    rules = (let same = rules_are in omega (arith, some, same));
    counts = counts_small few;
    steps = few_counted _ (length r.steps) _ few (part-steps part r rules explain);
    races = few_counted _ (length r.steps) _ few (part-races part r rules explain);
    suppressed = few_counted _ (length r.steps) _ few (part-suppressed part r rules explain);
    refused = few_counted _ (length r.steps) _ few (part-refused part r rules explain);
    lost = small;
  }

  -- what a rule took of a part is among what all rules took
  pub rule_below : (j : ℕ) → slice_index (part_report (Some part) r rules explain).rule_counts j ≤ (part_report (Some part) r rules explain).suppressed
  rule_below j =
      let all : sum (part_report (Some part) r rules explain).rule_counts ≡ (part_report (Some part) r rules explain).suppressed =
      ap sum (part-rule_counts part r rules explain) ∙ counts-sum (answer its_steps) (kept (Some part) r) rules (length its_steps)
      ∙ sym (so_suppressed (part.index == 1) its_steps its_report) in
      let one = in_sum (part_report (Some part) r rules explain).rule_counts j in
      omega (arith, all, one)
    where
      in_sum : (xs : List ℕ) (j : ℕ) → slice_index xs j ≤ sum xs
      in_sum [] j = omega arith
      in_sum (x ∷ xs) zero = omega (arith, sum_by-cons (λ n. n) x xs)
      in_sum (x ∷ xs) (suc j) = let more = in_sum xs j in omega (arith, more, sum_by-cons (λ n. n) x xs)

pub part_counts_fit : (d : Divided) (i : ℕ) → IsCountable d → CountsFit (report_of_part d i)
part_counts_fit d i counted = counts_fit d.trace d.rules d.explain (part_at d.count i) (lost_told d.text) counted.steps counted.rules (lost_small d.text)

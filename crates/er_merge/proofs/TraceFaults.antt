-- If the texts of the reports of all parts of a trace say the same of it, only memory can be wanting to merge them.
use Rattle.std.proofs.Common.{◌≡◌, ℕ, ◌+◌, ◌<◌, ◌≤◌, ◌&&◌, Bool, true, cond, nat_eq, List, [], ◌∷◌, length, map, sum, slice_index, Some, None, Ok, Err, refl, sym, ap, subst, ◌∙◌, arith}
use Rattle.std.specs.Bool.{beq}
use Rattle.std.specs.List.{All}
use Rattle.std.specs.Str.{bytes_eq}
use Rattle.std.proofs.lemmas.Bool.Decides.{nat_tests}
use Rattle.std.proofs.lemmas.List.Elements.{All-head, All-tail}
use Rattle.std.proofs.lemmas.List.Sums.{sum_by-cons}
use Rattle.er_parts.specs.Merged.{HasEachPart, merged}
use Rattle.er_parts.specs.Parts.{part_at}
use Rattle.er_report.specs.Lines.{LineView}
use Rattle.er_report.specs.Report.{Summary, count_below}
use Rattle.er_merge.specs.Merging.{AreParts, IsGap, Merges, gap_from, is_like, number_of_parts, other_from, other_in, places_of, sum_in}
use Rattle.er_merge.specs.Parts.{ContentView, ReportView, part_of, report_view}
use Rattle.er_merge.specs.Texts.{Fits, all_lines, content_of}
use Rattle.er_merge.specs.Traces.{AreTextsOfParts, Divided, IsTextOfPart, report_of_part, whole_report}
use Rattle.er_merge.specs.declared.faults.MergeFault.{MergeFault}
use Rattle.er_merge.specs.declared.faults.MergeFault.TheVariants as merging
use Rattle.er_merge.specs.declared.merging.Figure.{Figure}
use Rattle.er_merge.specs.declared.merging.Figure.TheVariants.{Steps, Races, Suppressed, Refused, Rule}
use Rattle.er_merge.specs.declared.merging.Gap.{Gap}
use Rattle.er_merge.specs.declared.parts.PartReport.{PartReport}
use Rattle.er_merge.proofs.FaultLemmas.{no_fault}
use Rattle.er_merge.proofs.PartCounts.{count_le, rule_below, rules_are}
use Rattle.er_merge.proofs.PartNumbers.{IsWithin, named_within, no_gap}
use Rattle.er_merge.proofs.ReportLemmas.{Say, all_say, sums_say, text_read}
use Rattle.er_merge.proofs.TraceMerged.{All-back, IsOne, lines_are, plain, text_of_part, texts_are, whole}
use Rattle.er_merge.proofs.TraceSteps.{All-front}

-- reports that say the same are alike

same_number : (a b : ℕ) → a ≡ b → nat_eq a b ≡ true
same_number a b same = grind (arith, nat_tests, same)

same_bytes : (xs : List ℕ) → bytes_eq xs xs ≡ true
same_bytes [] = refl
same_bytes (x ∷ xs) = rw (same_number x x refl, same_bytes xs) refl

-- by what reports say
abbrev like_of : ReportView → ReportView → Bool
like_of a b =
    nat_eq a.heading.parts b.heading.parts && bytes_eq a.heading.about b.heading.about && nat_eq (length a.content.counts) (length b.content.counts)
    && beq a.content.totals.unordered b.content.totals.unordered && nat_eq a.content.totals.lost b.content.totals.lost

-- what the report of a part says
abbrev view_of : Divided → List ℕ → ℕ → ReportView
view_of d about i = record { heading = record { part = i; parts = d.count; about = about }; content = content_of d.trace.names (report_of_part d i) }

views_like : (d : Divided) (about : List ℕ) (i j : ℕ) → like_of (view_of d about i) (view_of d about j) ≡ true
views_like d about i j =
    let rules : length (report_of_part d i).rule_counts ≡ length (report_of_part d j).rule_counts =
    rules_are d.trace d.rules d.explain (part_at d.count i) ∙ sym (rules_are d.trace d.rules d.explain (part_at d.count j)) in
    rw (same_number d.count d.count refl, same_bytes about, same_number _ _ rules) (same_number (view_of d about i).content.totals.lost (view_of d about j).content.totals.lost refl)

-- each report is that of its part
abbrev AreRead : Divided → List ℕ → List ℕ → List PartReport → Type 0
AreRead d about [] [] = Unit {0}
AreRead d about [] (part ∷ parts) = ⊥
AreRead d about (i ∷ is) [] = ⊥
AreRead d about (i ∷ is) (part ∷ parts) = (report_view part ≡ view_of d about i) × AreRead d about is parts

places_are : (d : Divided) (about : List ℕ) (is : List ℕ) (parts : List PartReport) → AreRead d about is parts → places_of parts ≡ is
places_are d about [] [] read = refl
places_are d about [] (part ∷ parts) read = absurd read
places_are d about (i ∷ is) [] read = absurd read
places_are d about (i ∷ is) (part ∷ parts) read =
    ap (λ (n : ℕ). n ∷ places_of parts) (ap (λ (view : ReportView). view.heading.part) read.0) ∙ ap (λ (ns : List ℕ). i ∷ ns) (places_are d about is parts read.1)

number_is : (d : Divided) (about : List ℕ) (is : List ℕ) (parts : List PartReport) → 0 < length is → AreRead d about is parts → number_of_parts parts ≡ d.count
number_is d about [] parts some read = absurd (omega (arith, some))
number_is d about (i ∷ is) [] some read = absurd read
number_is d about (i ∷ is) (part ∷ parts) some read = ap (λ (view : ReportView). view.heading.parts) read.0

parts_like : (d : Divided) (about : List ℕ) (i j : ℕ) (first part : PartReport) → report_view first ≡ view_of d about i → report_view part ≡ view_of d about j → is_like first part ≡ true
parts_like d about i j first part one two =
    ap (λ (view : ReportView). like_of view (report_view part)) one ∙ ap (λ (view : ReportView). like_of (view_of d about i) view) two ∙ views_like d about i j

none_from : (d : Divided) (about : List ℕ) (n i : ℕ) (first : PartReport) (is : List ℕ) (parts : List PartReport) → report_view first ≡ view_of d about i → AreRead d about is parts → other_from n first parts ≡ None
none_from d about n i first [] [] one read = refl
none_from d about n i first [] (part ∷ parts) one read = absurd read
none_from d about n i first (j ∷ is) [] one read = absurd read
none_from d about n i first (j ∷ is) (part ∷ parts) one read =
    ap (λ b. cond b (other_from (n + 1) first parts) (Some n)) (parts_like d about i j first part one read.0) ∙ none_from d about (n + 1) i first is parts one read.1

no_other : (d : Divided) (about : List ℕ) (is : List ℕ) (parts : List PartReport) → AreRead d about is parts → other_in parts ≡ None
no_other d about [] [] read = refl
no_other d about [] (part ∷ parts) read = absurd read
no_other d about (i ∷ is) [] read = absurd read
no_other d about (i ∷ is) (part ∷ parts) read = none_from d about 2 i part is parts read.0 read.1

-- sums of parts

sum_le : (f g : Summary → ℕ) (h : ℕ → Summary) (is : List ℕ) → ((i : ℕ) → f (h i) ≤ g (h i)) → sum (map f (map h is)) ≤ sum (map g (map h is))
sum_le f g h [] less = omega arith
sum_le f g h (i ∷ is) less =
    let more = sum_le f g h is less in
    let one = less i in
    let left = sum_by-cons (λ n. n) (f (h i)) (map f (map h is)) in
    let right = sum_by-cons (λ n. n) (g (h i)) (map g (map h is)) in
    omega (arith, more, one, left, right)

module _ (d : Divided) (parts : List ℕ) (about : List ℕ) (texts : ℕ → List ℕ) (are : AreTextsOfParts d parts (λ (i : ℕ). about) texts) where
  abbrev PrintedSo : ℕ → Type 0
  PrintedSo i = IsTextOfPart d i about (texts i)

  abbrev One : LineView → Type 0
  One = IsOne d parts (λ (i : ℕ). about) texts are

  read_by : (is : List ℕ) (found : List PartReport) → All PrintedSo is → All One (all_lines (map (report_of_part d) is)) → AreParts (map texts is) found → AreRead d about is found
  read_by [] [] printed lines same = tt
  read_by [] (part ∷ found) printed lines same = absurd (cc)
  read_by (i ∷ is) [] printed lines same = absurd (cc)
  read_by (i ∷ is) (part ∷ found) printed lines same =
      let text = text_of_part d parts (λ (j : ℕ). about) texts are i (All-head PrintedSo i is printed) (All-front One (report_of_part d i).lines (all_lines (map (report_of_part d) is)) lines) in
      let this : part_of (texts i) ≡ Ok (view_of d about i) = text_read d.trace.names (report_of_part d i) (texts i) text (plain d parts (λ (j : ℕ). about) texts are) in
      let head : part_of (texts i) ≡ Ok (report_view part) = cc in
      let tail : map part_of (map texts is) ≡ map (λ (part : PartReport). Ok (report_view part)) found = cc in (
        (cc),
        read_by is found (All-tail PrintedSo i is printed) (All-back One (report_of_part d i).lines (all_lines (map (report_of_part d) is)) lines) tail,
      )

  read : (found : List PartReport) → AreParts (map texts parts) found → AreRead d about parts found
  read found same = read_by parts found are.printed (lines_are d parts (λ (i : ℕ). about) texts are) same

  within : All (IsWithin d.count) parts
  within = λ k e below. let text = are.printed k e below in named_within text.line _ text.names_it

  some : (is : List ℕ) → HasEachPart d.count is → 0 < length is
  some [] each = absurd (omega (arith, each 1 (omega arith) are.some))
  some (i ∷ is) each = omega arith

  gap_never : (found : List PartReport) (gap : Gap) → AreRead d about parts found → IsGap (number_of_parts found) (places_of found) (Some gap) → ⊥
  gap_never found gap same is =
      let places : parts ≡ places_of found = sym (places_are d about parts found same) in
      let none = no_gap d.count (places_of found) is.rising (subst (HasEachPart d.count) places are.each) (subst (All (IsWithin d.count)) places within) is.permutation is.sorted in
      let clash = is.is ∙ ap (λ n. gap_from n 1 is.rising) (number_is d about parts found (some parts are.each) same) ∙ none in
      absurd (cc)

  -- the sums are the counts of the whole report, which fit
  whole_is : merged (map (report_of_part d) parts) ≡ whole_report d
  whole_is = whole d parts (λ (i : ℕ). about) texts are

  say : (found : List PartReport) → AreParts (map texts parts) found → Say d.trace.names (map (report_of_part d) parts) found
  say found same =
      all_say d.trace.names (map (report_of_part d) parts) (map texts parts) found (plain d parts (λ (i : ℕ). about) texts are) (texts_are d parts (λ (i : ℕ). about) texts are) same

  few : (test : ℕ → Bool) (count : ℕ) → count ≡ count_below test (length d.trace.steps) → Fits count
  few test count is = let steps = are.counted.steps in omega (arith, steps, is, count_le test (length d.trace.steps))

  figure_fits : (found : List PartReport) (figure : Figure) → AreParts (map texts parts) found → Fits (sum_in found figure)
  figure_fits found Steps same =
      let sums = sums_say d.trace.names (λ (c : ContentView). c.totals.steps) Steps (λ (s : Summary). s.steps) (λ part. refl) (λ s. refl) (map (report_of_part d) parts) found (say found same) in
      let all : sum_in found Steps ≡ length d.trace.steps = sums ∙ ap (λ (s : Summary). s.steps) whole_is in
      let steps = are.counted.steps in omega (arith, all, steps)
  figure_fits found Races same =
      let sums = sums_say d.trace.names (λ (c : ContentView). c.totals.races) Races (λ (s : Summary). s.races) (λ part. refl) (λ s. refl) (map (report_of_part d) parts) found (say found same) in
      few _ (sum_in found Races) (sums ∙ ap (λ (s : Summary). s.races) whole_is)
  figure_fits found Suppressed same =
      let sums = sums_say d.trace.names (λ (c : ContentView). c.totals.suppressed) Suppressed (λ (s : Summary). s.suppressed) (λ part. refl) (λ s. refl) (map (report_of_part d) parts) found (say found same) in
      few _ (sum_in found Suppressed) (sums ∙ ap (λ (s : Summary). s.suppressed) whole_is)
  figure_fits found Refused same =
      let sums = sums_say d.trace.names (λ (c : ContentView). c.totals.refused) Refused (λ (s : Summary). s.refused) (λ part. refl) (λ s. refl) (map (report_of_part d) parts) found (say found same) in
      few _ (sum_in found Refused) (sums ∙ ap (λ (s : Summary). s.refused) whole_is)
  figure_fits found (Rule j) same =
      let sums = sums_say d.trace.names (λ (c : ContentView). slice_index c.counts j) (Rule j) (λ (s : Summary). slice_index s.rule_counts j) (λ part. refl) (λ s. refl) (map (report_of_part d) parts) found (say found same) in
      let less = sum_le (λ (s : Summary). slice_index s.rule_counts j) (λ (s : Summary). s.suppressed) (report_of_part d) parts
      (λ i. rule_below d.trace d.rules d.explain (part_at d.count i) j) in
      let all = few _ (sum (map (λ (s : Summary). s.suppressed) (map (report_of_part d) parts))) (ap (λ (s : Summary). s.suppressed) whole_is) in
      omega (arith, sums, less, all)

  pub memory_alone : (fault : MergeFault) → Merges (map texts parts) (Err fault) → fault ≡ merging.Memory
  memory_alone (merging.Line n line fault) merges =
      absurd (no_fault d.trace.names (map (report_of_part d) parts) (map texts parts) n line fault (plain d parts (λ (i : ℕ). about) texts are) (texts_are d parts (λ (i : ℕ). about) texts are) merges)
  memory_alone (merging.Other n) merges = let none = no_other d about parts merges.0 (read merges.0 merges.1) in let clash = sym none ∙ merges.2 in absurd (cc)
  memory_alone (merging.Twice n) merges = absurd (gap_never merges.0 _ (read merges.0 merges.1) merges.2.1)
  memory_alone (merging.Missing n) merges = absurd (gap_never merges.0 _ (read merges.0 merges.1) merges.2.1)
  memory_alone merging.CountsTooLarge merges =
      let large = merges.2.2 in
      let small = figure_fits merges.0 large.0 merges.1 in
      let over = large.1 in
      absurd (omega (arith, small, over))
  memory_alone merging.Memory merges = refl

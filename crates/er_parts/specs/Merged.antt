-- Reports of parts, merged into one.
use Rattle.std.specs.Prelude.{ℕ, ◌≡◌, ◌≤◌, ◌==◌, nat_le, nat_lt, Bool, ◌&&◌, ◌||◌, cond, List, [], ◌∷◌, count_by, flat_map, length, map, slice_index, sum, Option, None}
use Rattle.std.specs.List.{range_with_len}
use Rattle.er_report.specs.Lines.{LineView, RacedView, RefusedView, ShownView}
use Rattle.er_report.specs.Report.{Summary}
use Rattle.er_report.specs.declared.report.Deed.{Deed}
use Rattle.er_report.specs.declared.report.Deed.TheVariants as deed

-- the word that was accessed, or the first of those that were reused
abbrev pub deed_word : Deed → ℕ
deed_word (deed.Access kind word) = word
deed_word (deed.Reuse range) = range.lo

-- the number of the line in the text
abbrev pub line_number : LineView → ℕ
line_number (RacedView race) = race.line
line_number (RefusedView number step refusal) = number
line_number (ShownView number word state) = number

-- the word that the line is of; a refused step is of none
abbrev pub line_word : LineView → ℕ
line_word (RacedView race) = deed_word race.deed
line_word (RefusedView number step refusal) = 0
line_word (ShownView number word state) = word

-- the first line may stand before the second: by the numbers of their lines in the text, and by their words if these are the same
unfoldable pub may_precede : LineView → LineView → Bool
may_precede a b = nat_lt (line_number a) (line_number b) || (line_number a == line_number b && nat_le (line_word a) (line_word b))

-- the line put before the first one that it may precede
unfoldable pub put : LineView → List LineView → List LineView
put line [] = line ∷ []
put line (other ∷ lines) = cond (may_precede line other) (line ∷ other ∷ lines) (other ∷ put line lines)

-- the lines in order
unfoldable pub in_order : List LineView → List LineView
in_order [] = []
in_order (line ∷ lines) = put line (in_order lines)

-- how many rules the reports have counts of, by the first one
abbrev pub rules_in : List Summary → ℕ
rules_in [] = 0
rules_in (report ∷ reports) = length report.rule_counts

-- how many events the trace lost, by the first report
abbrev pub lost_in : List Summary → Option ℕ
lost_in [] = None
lost_in (report ∷ reports) = report.lost

-- one report of several: their lines in order, and their counts added
abbrev pub merged : List Summary → Summary
merged reports =
    record {
      lines = in_order (flat_map (λ report. report.lines) reports);
      stop = None;
      rule_counts = map (λ i. sum (map (λ report. slice_index report.rule_counts i) reports)) (range_with_len 0 (rules_in reports));
      steps = sum (map (λ report. report.steps) reports);
      races = sum (map (λ report. report.races) reports);
      suppressed = sum (map (λ report. report.suppressed) reports);
      refused = sum (map (λ report. report.refused) reports);
      lost = lost_in reports;
    }

-- each of so many parts is in the list, once
abbrev pub HasEachPart : ℕ → List ℕ → Type 0
HasEachPart count parts = (i : ℕ) → 1 ≤ i → i ≤ count → count_by (λ part. i == part) parts ≡ 1

-- The one report of a trace, by the reports of its parts.
use Rattle.std.specs.Prelude.{◌≡◌, ℕ, ◌+◌, ◌-◌, ◌/◌, ◌^◌, ◌<◌, ◌≤◌, ◌&&◌, All, Bool, true, false, List, [], ◌∷◌, ◌++◌, Option, Some, None, Result, Ok, Err, length, map, take, flat_map, nat_eq, nat_lt, nat_le, slice_index, slice_index_or, if◌then◌else◌}
use Rattle.std.specs.Bool.{beq}
use Rattle.std.specs.List.{range_with_len, sum_by}
use Rattle.std.specs.List.Sorted.{IsNonDecreasing, IsPermutation, IsSorted, IsStable}
use Rattle.std.specs.Ordering.{nat_cmp, ordering_then}
use Rattle.std.specs.Str.{bytes_eq}
use Rattle.std.specs.declared.cmp.Ordering.{Ordering}
use Rattle.std.specs.declared.vec.Vec.{Vec}
use Rattle.er_parts.specs.Parts.{PartView, has_page}
use Rattle.er_print.specs.Printed.{end_text}
use Rattle.er_print.specs.declared.lines.ReportKind.{ReportKind}
use Rattle.er_print.specs.declared.lines.ReportKind.TheVariants.{Lockset, Unordered}
use Rattle.er_report.specs.Report.{Summary, told}
use Rattle.er_report.specs.declared.report.Report.{Report}
use Rattle.er_merge.specs.Parts.{part_of, report_view}
use Rattle.er_merge.specs.declared.faults.LineFault.{LineFault}
use Rattle.er_merge.specs.declared.faults.MergeFault.{MergeFault}
use Rattle.er_merge.specs.declared.faults.MergeFault.TheVariants.{Line, Other, Twice, Missing, CountsTooLarge, Memory}
use Rattle.er_merge.specs.declared.merging.Figure.{Figure}
use Rattle.er_merge.specs.declared.merging.Figure.TheVariants.{Steps, Races, Suppressed, Refused, Rule}
use Rattle.er_merge.specs.declared.merging.Gap.{Gap}
use Rattle.er_merge.specs.declared.merging.Gap.TheVariants as gap
use Rattle.er_merge.specs.declared.merging.Merged.{Merged}
use Rattle.er_merge.specs.declared.parts.Entry.{Entry}
use Rattle.er_merge.specs.declared.parts.PartReport.{PartReport}

-- these texts are these reports
abbrev pub AreParts : List (List ℕ) → List PartReport → Type 0
AreParts texts parts = map part_of texts ≡ map (λ (part : PartReport). Ok (report_view part)) parts

-- the text of this number is none, for this fault on this line, and those before it are reports
pub record IsFirstFault (texts : List (List ℕ)) (number line : ℕ) (fault : LineFault) : Type 0 where
  pub some : 0 < number
  pub within : number ≤ length texts
  pub parts : List PartReport
  pub before : AreParts (take (number - 1) texts) parts
  pub here : part_of (slice_index_or texts (number - 1) []) ≡ Err (line, fault)

-- one of them is none
abbrev pub FailsToRead : List (List ℕ) → MergeFault → Type 0
FailsToRead texts (Line number line fault) = IsFirstFault texts number line fault
FailsToRead texts (Other n) = ⊥
FailsToRead texts (Twice n) = ⊥
FailsToRead texts (Missing n) = ⊥
FailsToRead texts CountsTooLarge = ⊥
FailsToRead texts Memory = Unit {0}

-- all are reports, or one is none
abbrev pub ReadsAll : {A : Type 0} → List (List ℕ) → Result (Vec PartReport A) MergeFault → Type 0
ReadsAll texts (Ok parts) = AreParts texts parts.items
ReadsAll texts (Err fault) = FailsToRead texts fault

-- a report is of the same trace as the first one, in as many parts, and was made as that was
abbrev pub is_like : PartReport → PartReport → Bool
is_like first part =
    nat_eq first.heading.parts part.heading.parts && bytes_eq first.heading.about.now part.heading.about.now
    && nat_eq (length first.content.counts.items) (length part.content.counts.items)
    && beq first.content.totals.unordered part.content.totals.unordered
    && nat_eq first.content.totals.lost part.content.totals.lost

-- the first that is not, numbered from here
abbrev pub other_from : ℕ → PartReport → List PartReport → Option ℕ
other_from number first [] = None
other_from number first (part ∷ parts) = if is_like first part then other_from (number + 1) first parts else Some number

-- the first report that is not like the one in front, by its number
abbrev pub other_in : List PartReport → Option ℕ
other_in [] = None
other_in (first ∷ others) = other_from 2 first others

-- how many parts there should be, by the first report
abbrev pub number_of_parts : List PartReport → ℕ
number_of_parts [] = 1
number_of_parts (first ∷ others) = first.heading.parts

-- which parts the reports are of
abbrev pub places_of : List PartReport → List ℕ
places_of parts = map (λ (part : PartReport). part.heading.part) parts

-- of rising numbers, which should be those from this one on up to the number of parts: the first that is there twice or missing
abbrev pub gap_from : ℕ → ℕ → List ℕ → Option Gap
gap_from parts next [] = if nat_le next parts then Some (gap.Missing next) else None
gap_from parts next (place ∷ places) =
    if nat_lt place next then Some (gap.Twice place) else if nat_lt next place then Some (gap.Missing next) else gap_from parts (next + 1) places

-- the same of numbers in any order
pub record IsGap (parts : ℕ) (places : List ℕ) (gap : Option Gap) : Type 0 where
  pub rising : List ℕ
  pub permutation : IsPermutation places rising
  pub sorted : IsNonDecreasing rising
  pub is : gap ≡ gap_from parts 1 rising

-- what a report counts
abbrev pub figure_of : Figure → PartReport → ℕ
figure_of Steps part = part.content.totals.steps
figure_of Races part = part.content.totals.races
figure_of Suppressed part = part.content.totals.suppressed
figure_of Refused part = part.content.totals.refused
figure_of (Rule place) part = slice_index part.content.counts.items place

-- what the reports count of this together
abbrev pub sum_in : List PartReport → Figure → ℕ
sum_in parts figure = sum_by (figure_of figure) parts

-- how many races the rule in this place took in all of them
abbrev pub rule_sum : List PartReport → ℕ → ℕ
rule_sum parts place = sum_in parts (Rule place)

-- some sum is too large for 64 bits
abbrev pub HasLargeSum : List PartReport → Type 0
HasLargeSum parts = (figure : Figure) × (2 ^ 64 ≤ sum_in parts figure)

-- a sum over the reports, if it is small enough
abbrev pub Sums : List PartReport → Figure → Result ℕ MergeFault → Type 0
Sums parts figure (Ok sum) = sum ≡ sum_in parts figure
Sums parts figure (Err fault) = (fault ≡ CountsTooLarge) × (2 ^ 64 ≤ sum_in parts figure)

-- why the sums were not made
abbrev pub Fails : List PartReport → MergeFault → Type 0
Fails parts (Line number line fault) = ⊥
Fails parts (Other number) = ⊥
Fails parts (Twice part) = ⊥
Fails parts (Missing part) = ⊥
Fails parts CountsTooLarge = HasLargeSum parts
Fails parts Memory = Unit {0}

-- these sums, or why they were not made
abbrev pub GivesSums : {A : Type 0} → List PartReport → List ℕ → Result (Vec ℕ A) MergeFault → Type 0
GivesSums parts sums (Ok given) = given.items ≡ sums
GivesSums parts sums (Err fault) = Fails parts fault

-- how many rules have counts, by the first report
abbrev pub rules_in : List PartReport → ℕ
rules_in [] = 0
rules_in (first ∷ others) = length first.content.counts.items

-- how many events were lost, by the first report
abbrev pub lost_of : List PartReport → Option ℕ
lost_of [] = None
lost_of (first ∷ others) = Some first.content.totals.lost

-- a report by happens-before calls races unordered
abbrev pub kind_if : Bool → ReportKind
kind_if true = Unordered
kind_if false = Lockset

-- which analysis the reports are of, by the first one
abbrev pub kind_of : List PartReport → ReportKind
kind_of [] = Lockset
kind_of (first ∷ others) = kind_if first.content.totals.unordered

-- what all reports count together, without a line
abbrev pub sums_of : List PartReport → Summary
sums_of parts =
    record {
      lines = [];
      stop = None;
      rule_counts = map (rule_sum parts) (range_with_len 0 (rules_in parts));
      steps = sum_in parts Steps;
      races = sum_in parts Races;
      suppressed = sum_in parts Suppressed;
      refused = sum_in parts Refused;
      lost = lost_of parts;
    }

-- what all reports count together, or why that was not made
abbrev pub EndsAs : List PartReport → Result Report MergeFault → Type 0
EndsAs parts (Ok end) = told end ≡ sums_of parts
EndsAs parts (Err fault) = Fails parts fault

-- the lines of steps and reasons of a report
abbrev pub entries_in : PartReport → List Entry
entries_in part = part.content.entries.items

-- such a line with its LF
abbrev pub entry_text : Entry → List ℕ
entry_text entry = entry.text.now ++ 10 ∷ []

-- by the line of the trace, and then by the address of the word
abbrev pub place_order : Entry → Entry → Ordering
place_order entry other = ordering_then (nat_cmp entry.place.line other.place.line) (nat_cmp entry.place.address other.place.address)

-- the same lines in their order; those of one place keep theirs
pub record IsInOrder (old new : List Entry) : Type 0 where
  pub permutation : IsPermutation old new
  pub sorted : IsSorted place_order new
  pub stable : IsStable place_order old new

-- the text of these lines, and then of this end
abbrev pub text_of_entries : List Entry → ReportKind → Report → List ℕ
text_of_entries entries of end = flat_map entry_text entries ++ end_text of (told end)

-- the page of the word of a line
abbrev pub page_at : Entry → ℕ
page_at entry = entry.place.address / 4096

-- the part has the pages of these lines, and the events that are of no page
abbrev pub HasPagesOf : List Entry → PartView → Type 0
HasPagesOf entries part = (part.index ≡ 1) × All (λ page. has_page part page ≡ true) (map page_at entries)

-- the text of the reports' lines in their order, and then of this end, and the part that has their pages
pub record GivesText (parts : List PartReport) (end : Report) (text : List ℕ) (part : PartView) : Type 0 where
  pub entries : List Entry
  pub order : IsInOrder (flat_map entries_in parts) entries
  pub is : text ≡ text_of_entries entries (kind_of parts) end
  pub pages : HasPagesOf entries part

-- each part is there once, all are of one trace; the text has their lines in their order and then their sums, and these and the lines' pages are told
pub record IsMerged (parts : List PartReport) (merged : Merged) : Type 0 where
  pub like : other_in parts ≡ None
  pub each : IsGap (number_of_parts parts) (places_of parts) None
  pub entries : List Entry
  pub order : IsInOrder (flat_map entries_in parts) entries
  pub text : merged.text.items ≡ flat_map entry_text entries ++ end_text (kind_of parts) (sums_of parts)
  pub counts : told merged.counts ≡ sums_of parts
  pub pages : HasPagesOf entries merged.pages

-- why these reports make no one report
abbrev pub Refuses : List PartReport → MergeFault → Type 0
Refuses parts (Line number line fault) = ⊥
Refuses parts (Other number) = other_in parts ≡ Some number
Refuses parts (Twice part) = (other_in parts ≡ None) × IsGap (number_of_parts parts) (places_of parts) (Some (gap.Twice part))
Refuses parts (Missing part) = (other_in parts ≡ None) × IsGap (number_of_parts parts) (places_of parts) (Some (gap.Missing part))
Refuses parts CountsTooLarge = (other_in parts ≡ None) × IsGap (number_of_parts parts) (places_of parts) None × HasLargeSum parts
Refuses parts Memory = Unit {0}

-- these reports are merged so, or make no one report
abbrev pub MergesParts : List PartReport → Result Merged MergeFault → Type 0
MergesParts parts (Ok merged) = IsMerged parts merged
MergesParts parts (Err fault) = Refuses parts fault

-- these texts are reports that are merged so, or one of them is no report, or they make no one report
abbrev pub Merges : List (List ℕ) → Result Merged MergeFault → Type 0
Merges texts (Ok merged) = (parts : List PartReport) × AreParts texts parts × IsMerged parts merged
Merges texts (Err (Line number line fault)) = IsFirstFault texts number line fault
Merges texts (Err (Other number)) = (parts : List PartReport) × AreParts texts parts × Refuses parts (Other number)
Merges texts (Err (Twice part)) = (parts : List PartReport) × AreParts texts parts × Refuses parts (Twice part)
Merges texts (Err (Missing part)) = (parts : List PartReport) × AreParts texts parts × Refuses parts (Missing part)
Merges texts (Err CountsTooLarge) = (parts : List PartReport) × AreParts texts parts × Refuses parts CountsTooLarge
Merges texts (Err Memory) = Unit {0}

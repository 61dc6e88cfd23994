-- The laws that tie merged texts to merged reports, and these to the report of a trace.
use Rattle.std.specs.Prelude.{◌≡◌, ℕ, ◌*◌, ◌≤◌, All, Bool, List, Some, Result, Ok, Err, MatchResult, length, map}
use Rattle.std.specs.List.{range_with_len}
use Rattle.std.specs.List.Sorted.{IsPermutation}
use Rattle.er_merge.specs.Headings.{about_text}
use Rattle.er_merge.specs.Merging.{Merges}
use Rattle.er_merge.specs.Parts.{part_of}
use Rattle.er_merge.specs.Texts.{AddressesFollow, ArePartTexts, HasPlainNames, IsPartText, LineFits, RacesAloneShare, all_lines, content_of}
use Rattle.er_merge.specs.Traces.{AreTextsOfParts, Divided, IsCountable, IsHeadingOf, IsTextOfPart, whole_report, written_part}
use Rattle.er_merge.specs.declared.faults.LineFault.{LineFault}
use Rattle.er_merge.specs.declared.faults.MergeFault.{MergeFault}
use Rattle.er_merge.specs.declared.faults.MergeFault.TheVariants.{Line, Memory}
use Rattle.er_merge.specs.declared.headings.PartHeading.{PartHeading}
use Rattle.er_merge.specs.declared.merging.Merged.{Merged}
use Rattle.er_parts.specs.Given.{counted_as, part_report}
use Rattle.er_parts.specs.Merged.{merged}
use Rattle.er_print.specs.Printed.{report_text}
use Rattle.er_report.specs.Lines.{LineView}
use Rattle.er_report.specs.Report.{Summary, told}
use Rattle.er_text.specs.Ending.{lost_told}
use Rattle.er_text.specs.Trace.{IsTrace}
use Rattle.er_trace.specs.Names.{NameTable}
use Rattle.er_trace.specs.Trace.{Recording}

-- the text of a part's report is read as the report
abbrev pub ReportsAreReadBack : Type 0
ReportsAreReadBack = (names : NameTable) (report : Summary) (text : List ℕ) (is : IsPartText names report text) → HasPlainNames names
    → part_of text ≡ Ok (record { heading = is.heading; content = content_of names report })

-- no line of such texts is a fault
abbrev pub TextsHaveNoFault : Type 0
TextsHaveNoFault = (names : NameTable) (reports : List Summary) (texts : List (List ℕ)) (number line : ℕ) (fault : LineFault) → HasPlainNames names
    → ArePartTexts names reports texts → Merges texts (Err (Line number line fault)) → ⊥

-- what is merged of such texts is what is printed for the merged reports, with their number of races
abbrev pub TextsMergeAsReports : Type 0
TextsMergeAsReports = (names : NameTable) (reports : List Summary) (texts : List (List ℕ)) (made : Merged) → HasPlainNames names
    → ArePartTexts names reports texts → AddressesFollow names (all_lines reports) → Merges texts (Ok made)
    → (made.text.items ≡ report_text names (merged reports)) × (made.counts.races ≡ (merged reports).races)

-- it is enough that races alone have one number together
abbrev pub AddressesFollowWords : Type 0
AddressesFollowWords = (names : NameTable) (lines : List LineView) → HasPlainNames names → All LineFits lines → RacesAloneShare names lines → AddressesFollow names lines

-- what is merged of the texts of all parts of a trace is what is printed for the report of the trace, with its number of races
abbrev pub PartsMakeTheText : Type 0
PartsMakeTheText = (d : Divided) (parts : List ℕ) (about texts : ℕ → List ℕ) (made : Merged) → AreTextsOfParts d parts about texts → Merges (map texts parts) (Ok made)
    → (made.text.items ≡ report_text d.trace.names (whole_report d)) × (made.counts.races ≡ (whole_report d).races)

-- and the part that has the pages of that text's lines reports, with the counts of the text, what the whole trace has, with reasons or without
abbrev pub PagesMakeTheReport : Type 0
PagesMakeTheReport = (d : Divided) (parts : List ℕ) (about texts : ℕ → List ℕ) (made : Merged) (explain : Bool) → AreTextsOfParts d parts about texts → Merges (map texts parts) (Ok made)
    → (made.pages.index ≡ 1) × (counted_as (told made.counts) (record (part_report (Some made.pages) d.trace d.rules explain) { lost = lost_told d.text }) ≡ whole_report (record d { explain = explain }))

-- and if all say the same of the trace, nothing but memory can be wanting
abbrev pub PartsAreMerged : Type 0
PartsAreMerged = (d : Divided) (parts : List ℕ) (about : List ℕ) (texts : ℕ → List ℕ) (fault : MergeFault) → AreTextsOfParts d parts (λ (i : ℕ). about) texts
    → Merges (map texts parts) (Err fault) → fault ≡ Memory

-- what is written of each part is such a text, and says the same of the trace
abbrev pub PartsAreWrittenSo : Type 0
PartsAreWrittenSo = (d : Divided) (heading : PartHeading) (i : ℕ) → IsHeadingOf d heading → 1 ≤ i → i ≤ d.count → IsTextOfPart d i (about_text heading) (written_part d heading i)

-- so what is written of all parts of a trace, in any order, is merged into what is printed for the report of the trace, or memory is wanting
abbrev pub WrittenPartsAreMerged : Type 0
WrittenPartsAreMerged = (d : Divided) (limit : ℕ) (heading : PartHeading) (parts : List ℕ) (result : Result Merged MergeFault) → IsTrace d.text limit d.trace → IsCountable d
    → IsHeadingOf d heading → 1 ≤ d.count → IsPermutation (range_with_len 1 d.count) parts → Merges (map (written_part d heading) parts) result
    → MatchResult result (λ made. (made.text.items ≡ report_text d.trace.names (whole_report d)) × (made.counts.races ≡ (whole_report d).races)) (λ fault. fault ≡ Memory)

-- a trace has at most 1,025 steps for each byte of its text
abbrev pub TracesHaveFewSteps : Type 0
TracesHaveFewSteps = (text : List ℕ) (limit : ℕ) (t : Recording) → IsTrace text limit t → length t.steps ≤ 1025 * length text

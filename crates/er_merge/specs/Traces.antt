-- The texts of the reports of all parts of a trace.
use Rattle.std.specs.Prelude.{◌≡◌, ℕ, ◌+◌, ◌^◌, ◌<◌, ◌≤◌, All, Bool, true, not, List, ◌∷◌, ◌++◌, length, Some, None}
use Rattle.std.specs.List.{list_all}
use Rattle.er_lines.specs.Lines.{is_end}
use Rattle.er_merge.specs.Headings.{heading_text}
use Rattle.er_merge.specs.Parts.{heading_in}
use Rattle.er_merge.specs.declared.headings.PartHeading.{PartHeading}
use Rattle.er_parts.specs.Given.{part_report}
use Rattle.er_parts.specs.Merged.{HasEachPart}
use Rattle.er_parts.specs.Parts.{part_at}
use Rattle.er_print.specs.Printed.{report_text}
use Rattle.er_report.specs.Report.{Summary, report_of}
use Rattle.er_rules.specs.Rules.{Target}
use Rattle.er_text.specs.Ending.{lost_told}
use Rattle.er_text.specs.Trace.{IsTrace}
use Rattle.er_trace.specs.Trace.{Recording}

-- a text and its trace, and how reports of it are made: under these rules, with reasons or without, and in so many parts
pub record Divided : Type 0 where
  pub text : List ℕ
  pub trace : Recording
  pub rules : List Target
  pub explain : Bool
  pub count : ℕ

-- the report of the whole trace, with how many events the text says were lost
abbrev pub whole_report : Divided → Summary
whole_report d = record (report_of d.trace d.rules d.explain None) { lost = lost_told d.text }

-- and that of the part of this number
abbrev pub report_of_part : Divided → ℕ → Summary
report_of_part d i = record (part_report (Some (part_at d.count i)) d.trace d.rules d.explain) { lost = lost_told d.text }

-- a first line that names the part and says this of the trace, and then what is printed for the report of the part
pub record IsTextOfPart (d : Divided) (i : ℕ) (about : List ℕ) (text : List ℕ) : Type 0 where
  pub line : List ℕ
  pub one : list_all (λ byte. not (is_end byte)) line ≡ true
  pub names_it : heading_in line ≡ Some (record { part = i; parts = d.count; about = about })
  pub is : text ≡ line ++ 10 ∷ report_text d.trace.names (report_of_part d i)

-- numbers of 64 bits count the bytes of the text, the steps of the trace and the rules
pub record IsCountable (d : Divided) : Type 0 where
  pub bytes : length d.text < 2 ^ 64
  pub steps : length d.trace.steps < 2 ^ 64
  pub rules : 1 + length d.rules < 2 ^ 64

-- the text is a trace, each of its parts is in the list once, and this is the text for each part in the list, which says that of the trace
pub record AreTextsOfParts (d : Divided) (parts : List ℕ) (about texts : ℕ → List ℕ) : Type 0 where
  pub limit : ℕ
  pub trace : IsTrace d.text limit d.trace
  pub counted : IsCountable d
  pub some : 1 ≤ d.count
  pub each : HasEachPart d.count parts
  pub printed : All (λ (i : ℕ). IsTextOfPart d i (about i) (texts i)) parts

-- the heading has as many parts, and numbers of 64 bits
pub record IsHeadingOf (d : Divided) (heading : PartHeading) : Type 0 where
  pub parts : heading.parts ≡ d.count
  pub small : heading.parts < 2 ^ 64
  pub bytes : heading.bytes < 2 ^ 64

-- what is written of the part of this number: the heading with its number, and then its report
abbrev pub written_part : Divided → PartHeading → ℕ → List ℕ
written_part d heading i = heading_text (record heading { part = i }) ++ report_text d.trace.names (report_of_part d i)

-- The reports that were built of a text, before a byte of them is written, and what they come to.
use Rattle.std.specs.Prelude.{◌≡◌, ◌&&◌, ◌||◌, ℕ, ◌<◌, nat_lt, Bool, true, false, cond, List, length, Option, Some, None, IfSome, is_some}
use Rattle.er_batch.specs.Runs.{IsPartOf, MayStopAt}
use Rattle.er_batch.specs.declared.verdict.Verdict.{Verdict}
use Rattle.er_batch.specs.declared.verdict.Verdict.TheVariants as verdict
use Rattle.er_event.specs.declared.refusals.NoRoom.{NoRoom}
use Rattle.er_journal.specs.declared.answers.Stopped.{Stopped}
use Rattle.er_lines.specs.declared.ready.Touch.{Touch}
use Rattle.er_order.specs.ByBytes.{Touched}
use Rattle.er_parts.specs.Given.{given_by}
use Rattle.er_parts.specs.Parts.{PartView}
use Rattle.er_report.specs.Report.{Summary, report_of, told as summary}
use Rattle.er_report.specs.Reports.{asks_order}
use Rattle.er_report.specs.declared.report.Report.{Report}
use Rattle.er_report.specs.declared.reports.Analysis.{Analysis}
use Rattle.er_report.specs.declared.reports.Reports.{Reports}
use Rattle.er_rules.specs.Rules.{Target}
use Rattle.er_text.specs.Ending.{lost_told}
use Rattle.er_trace.specs.Names.{NameTable}
use Rattle.er_trace.specs.Trace.{Recording}
use Rattle.er_unordered.specs.Reports.{has_order, touched_by, unordered_report}

-- what a part gives of the report of a run over these steps, with so many lost events; without a part it gives all
abbrev pub report_with : Option PartView → Option ℕ → Recording → List Target → Bool → Option Stopped → Summary
report_with part lost recording rules explain stop = record (given_by part recording.steps (report_of recording rules explain stop)) { lost = lost }

-- that of their unordered accesses, where positions touch these bytes
abbrev pub unordered_with : Option PartView → Option ℕ → Recording → Touched → List Target → Bool → Summary
unordered_with part lost recording touched rules explain = record (given_by part recording.steps (unordered_report recording touched rules explain)) { lost = lost }

-- a stop of the lockset rule is a fault: of a part, or beside another report
abbrev pub is_unstopped : Option PartView → Analysis → Bool
is_unstopped part analysis = is_some part || asks_order analysis

-- what a part gives of the report of a run of the recording's steps under these rules, with so many lost events; if a stop is a fault the run hasn't stopped
pub record IsReportOfRun (part : Option PartView) (unstopped : Bool) (lost : Option ℕ) (recording : Recording) (rules : List Target) (explain : Bool) (report : Report) : Type 0 where
  pub stop : Option Stopped
  pub within : IfSome stop (λ s. s.at < length recording.steps)
  pub cause : IfSome stop (λ s. MayStopAt recording.steps s)
  pub whole : unstopped ≡ true → stop ≡ None
  pub says : summary report ≡ report_with part lost recording rules explain stop

-- the reports of the text's trace, or of a part of it, by this analysis under these rules, with reasons or without, with so many lost events, and the
-- names of that trace. By happens-before its accesses touch what the touches say of their lines, if these are known
pub record AreReportsBy (part : Option PartView) (lost : Option ℕ) (analysis : Analysis) (text : List ℕ) (touches : Option (List Touch)) (limit : ℕ) (rules : List Target) (explain : Bool) (used : NameTable) (reports : Reports) : Type 0 where
  pub recording : Recording
  pub trace : IsPartOf part text limit recording
  pub names : used ≡ recording.names
  pub lockset : IfSome reports.lockset (λ report. IsReportOfRun part (is_unstopped part analysis) lost recording rules explain report)
  pub unordered : IfSome reports.unordered (λ report. IfSome touches (λ all. summary report ≡ unordered_with part lost recording (touched_by all recording.lines) rules explain))

-- with those that the text says are lost
abbrev pub AreReportsOfText : Option PartView → Analysis → List ℕ → Option (List Touch) → ℕ → List Target → Bool → NameTable → Reports → Type 0
AreReportsOfText part analysis text touches limit rules explain used reports = AreReportsBy part (lost_told text) analysis text touches limit rules explain used reports

-- happens-before is asked for, and some step of the text's trace, or of the part, starts or joins a thread, signals or awaits
pub record IsOrderOfText (part : Option PartView) (analysis : Analysis) (text : List ℕ) (limit : ℕ) (has : Bool) : Type 0 where
  pub recording : Recording
  pub trace : IsPartOf part text limit recording
  pub says : has ≡ (asks_order analysis && has_order recording.steps)

-- where a report says that the run has stopped, if there is one
abbrev pub stop_in : Option Report → Option (ℕ × NoRoom)
stop_in None = None
stop_in (Some report) = report.stop

-- whether a report has races, if there is one
abbrev pub has_races : Option Report → Bool
has_races None = false
has_races (Some report) = nat_lt 0 report.races

-- what reports with such a stop and such races come to
abbrev pub verdict_by : Option (ℕ × NoRoom) → Bool → Verdict
verdict_by (Some stop) races = verdict.Stopped
verdict_by None races = cond races verdict.Races verdict.Clean

-- what reports come to: a stop of the lockset rule, or else whether some report has a race
abbrev pub is_verdict_of : Reports → Verdict
is_verdict_of reports = verdict_by (stop_in reports.lockset) (has_races reports.unordered || has_races reports.lockset)

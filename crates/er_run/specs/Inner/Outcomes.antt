-- What a replay may come to before a byte is written.
use Rattle.std.specs.Prelude.{◌≡◌, ◌&&◌, ◌==◌, ◌+◌, ◌<◌, ◌≤◌, ◌^◌, ℕ, Bool, true, false, not, List, filter, Option, Some, None, Result, IfSome, IfOk, IfErr, IsFalse, IsTrue, OnOk, is_some}
use Rattle.er_batch.specs.Analysts.{Asked, CrewRan, HasCrewRun, HasRunFor, Ran, StandsIf}
use Rattle.er_batch.specs.Limits.{bytes_past_limit}
use Rattle.er_batch.specs.declared.options.Options.{Options}
use Rattle.er_damage.specs.Damaged.{IsDamageOf, no_damage}
use Rattle.er_damage.specs.Standing.{Inspected}
use Rattle.er_lines.specs.declared.ready.Touch.{Touch}
use Rattle.er_parts.specs.Given.{is_refusal}
use Rattle.er_parts.specs.Parts.{PartView}
use Rattle.er_report.specs.Lines.{line_view}
use Rattle.er_report.specs.Names.{HasNames}
use Rattle.std.specs.List.{All}
use Rattle.er_report.specs.Report.{told as summary}
use Rattle.er_report.specs.Reports.{HaveNames, asks_locks, asks_order}
use Rattle.er_report.specs.declared.report.Line.{Line}
use Rattle.er_report.specs.declared.report.Report.{Report}
use Rattle.er_report.specs.declared.reports.Analysis.{Analysis}
use Rattle.er_report.specs.declared.reports.Reports.{Reports}
use Rattle.er_rules.specs.Rules.{Target}
use Rattle.er_run.specs.Faults.{FailsBy, IsFaultOfText, IsNoDamage, looks_for_damage}
use Rattle.er_run.specs.Inner.Inspected.{IsInspected}
use Rattle.er_run.specs.Reports.{AreReportsOfText, IsOrderOfText, IsReportOfRun, is_unstopped}
use Rattle.er_run.specs.declared.fault.RunFault.{RunFault}
use Rattle.er_run.specs.declared.outcome.ReplayedTrace.{ReplayedTrace}
use Rattle.er_text.specs.Ending.{IsEndingOf}
use Rattle.er_trace.specs.Trace.{Recording}
use Rattle.er_unordered.specs.Ordered.{HasOrdered, OrderRan}
use Rattle.er_unordered.specs.Reports.{has_order, touched_by, unordered_report}

-- each analyst that is asked for stands for the recording, and no other is there
abbrev pub AllStand : Option Ran → Option OrderRan → Option Inspected → Asked → Recording → Type 0
AllStand ran ordered seen asked r =
    (StandsIf (λ (one : Ran). HasRunFor one asked r) (asks_locks asked.analysis) ran × StandsIf (λ (one : OrderRan). HasOrdered one asked r) (asks_order asked.analysis) ordered)
    × IsInspected seen asked.strict r

-- several workers stand for it, and what looks for damage
abbrev pub CrewStands : CrewRan → Option Inspected → Asked → Recording → Type 0
CrewStands ran seen asked r = HasCrewRun ran asked r × IsInspected seen asked.strict r

-- the report by the lockset rule of the recording's steps, if it is asked for
pub record IsRunBuilt (part : Option PartView) (asked : Asked) (r : Recording) (report : Option Report) : Type 0 where
  pub there : is_some report ≡ asks_locks asked.analysis
  pub says : IfSome report (λ one. IsReportOfRun None (is_unstopped part asked.analysis) None r asked.rules asked.explain one)
  pub names : IfSome report (λ one. All (HasNames r.names) one.lines.items)

-- their report by happens-before, if it is asked for, and whether one of them is an order event
pub record IsOrderBuilt (asked : Asked) (r : Recording) (report : Option Report) (has : Bool) : Type 0 where
  pub there : is_some report ≡ asks_order asked.analysis
  pub says : IfSome report (λ one. IfSome asked.touches (λ all. summary one ≡ unordered_report r (touched_by all r.lines) asked.rules asked.explain))
  pub names : IfSome report (λ one. All (HasNames r.names) one.lines.items)
  pub order : has ≡ (asks_order asked.analysis && has_order r.steps)

-- the reports of all steps by both analyses, as far as they are asked for
pub record AreBuilt (part : Option PartView) (asked : Asked) (r : Recording) (reports : Reports) (has : Bool) : Type 0 where
  pub lockset : IsRunBuilt part asked r reports.lockset
  pub unordered : IsOrderBuilt asked r reports.unordered has

-- it is a part other than the first, which says nothing of the steps of no page
abbrev pub is_later : Option PartView → Bool
is_later None = false
is_later (Some part) = not (part.index == 1)

-- the line tells of no refused step
abbrev pub is_own : Line → Bool
is_own line = not (is_refusal (line_view line))

-- the report without its lines of refused steps, and with this number of steps
pub record IsOwnOf (of_pages : ℕ) (old new : Report) : Type 0 where
  pub lines : new.lines.items ≡ filter is_own old.lines.items
  pub others : new ≡ record old { lines = new.lines; steps = of_pages; refused = 0 }
  pub few : old.steps < 2 ^ 64

-- what a part, a later one or not, gives of a report, with so many lost events
pub record IsGivenOf (later : Bool) (of_pages : ℕ) (lost : Option ℕ) (old new : Report) : Type 0 where
  pub whole : later ≡ false → new ≡ record old { lost = lost }
  pub own : later ≡ true → IsOwnOf of_pages (record old { lost = lost }) new

-- the same of a report that may be there
abbrev pub IsGivenIf : Bool → ℕ → Option ℕ → Option Report → Option Report → Type 0
IsGivenIf later of_pages lost None None = Unit {0}
IsGivenIf later of_pages lost (Some old) (Some new) = IsGivenOf later of_pages lost old new
IsGivenIf later of_pages lost old new = ⊥

-- what a replay of this text, or of a part of it, that is asked this may come to, before a byte is written: the text's reports and how the text ends, or a fault
pub record IsOutcomeOf (part : Option PartView) (told : Option (List ℕ)) (limit : ℕ) (asked : Asked) (result : Result ReplayedTrace RunFault) : Type 0 where
  pub reports : IfOk result (λ found. IfSome told (λ text. AreReportsOfText part asked.analysis text asked.touches limit asked.rules asked.explain found.trace.names found.reports))
  pub there : IfOk result (λ found. (is_some found.reports.lockset ≡ asks_locks asked.analysis) × (is_some found.reports.unordered ≡ asks_order asked.analysis))
  pub named : IfOk result (λ found. HaveNames found.trace.names found.reports)
  pub whole : is_unstopped part asked.analysis ≡ true → IfOk result (λ found. IfSome found.reports.lockset (λ report. report.stop ≡ None))
  pub ending : IfOk result (λ found. IfSome told (λ text. IsEndingOf text found.ending))
  pub order : IfOk result (λ found. IfSome told (λ text. IsOrderOfText part asked.analysis text limit found.has_order))
  pub fault : IfErr result (λ why. IsFaultOfText part asked.analysis told limit why)
  pub undamaged : IsTrue asked.strict → OnOk result (IfSome told (λ text. IsDamageOf text limit no_damage))
  pub lenient : IsFalse asked.strict → IfErr result IsNoDamage

-- what a replay by these options and rules asks for, of a text with these touches
abbrev pub asked_by : Options → List Target → Analysis → Option (List Touch) → Asked
asked_by options rules analysis touches = record { analysis = analysis; rules = rules; explain = options.explain; strict = looks_for_damage options; touches = touches }

-- what a replay of this text, with these touches, by these options and rules may come to; its reader had given so many bytes before, and has given so many now, and it has
-- failed or not
pub record IsReplayOf (told : Option (List ℕ)) (touches : Option (List Touch)) (options : Options) (rules : List Target) (analysis : Analysis) (before after : ℕ) (unread : Bool) (result : Result ReplayedTrace RunFault) : Type 0 where
  pub outcome : IsOutcomeOf options.part told options.byte_limit (asked_by options rules analysis touches) result
  pub failed : FailsBy unread false result
  pub taken : after ≤ before + options.byte_limit + bytes_past_limit

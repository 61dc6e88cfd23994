-- What a part reports.
use Rattle.std.specs.Prelude.{◌≡◌, ◌==◌, ℕ, All, Bool, true, false, not, cond, List, filter, count_by, Option, Some, None}
use Rattle.er_event.specs.Span.{page_of}
use Rattle.er_event.specs.declared.steps.Step.{Step}
use Rattle.er_parts.specs.Merged.{deed_word}
use Rattle.er_parts.specs.Parts.{PartView, is_of_page, kept, takes_page}
use Rattle.er_report.specs.Lines.{LineView, RacedView, RefusedView, ShownView}
use Rattle.er_report.specs.Report.{Summary, report_of}
use Rattle.er_rules.specs.Rules.{Target}
use Rattle.er_trace.specs.Trace.{Recording}

-- the line tells a refused step
abbrev pub is_refusal : LineView → Bool
is_refusal (RefusedView number step refusal) = true
is_refusal (RacedView race) = false
is_refusal (ShownView number word state) = false

-- a report of the steps that are kept, as a part gives it: the first part all of it, and another one without what it says of the steps of no page
abbrev pub given_by : Option PartView → List Step → Summary → Summary
given_by None steps report = report
given_by (Some part) steps report =
    cond (part.index == 1) report (record report { lines = filter (λ line. not (is_refusal line)) report.lines; steps = count_by is_of_page steps; refused = 0 })

-- the report that a part gives of the recording, under these rules, with reasons or without; without a part the report of the recording
abbrev pub part_report : Option PartView → Recording → List Target → Bool → Summary
part_report part r rules explain = given_by part (kept part r).steps (report_of (kept part r) rules explain None)

-- the page of the word that the line is of; a refused step is of none
abbrev pub line_page : LineView → Option ℕ
line_page (RacedView race) = Some (page_of (deed_word race.deed))
line_page (RefusedView number step refusal) = None
line_page (ShownView number word state) = Some (page_of word)

-- the part has the page of each of these lines
abbrev pub HasPages : PartView → List LineView → Type 0
HasPages part lines = All (λ line. takes_page part (line_page line) ≡ true) lines

-- the second report, with what the first one counts of steps and of races that rules took
abbrev pub counted_as : Summary → Summary → Summary
counted_as whole report = record report { rule_counts = whole.rule_counts; steps = whole.steps; suppressed = whole.suppressed }

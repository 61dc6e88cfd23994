-- What is written of the pages and the counts of merged reports is the form of the report of the whole trace.
use Rattle.std.proofs.Common.{◌≡◌, ◌∙◌, ℕ, Bool, true, false, List, Option, Some, None, IfSome, IsSomeAnd, is_some, inl, inr, refl, sym, ap, subst}
use Rattle.er_lines.specs.declared.ready.Touch.{Touch}
use Rattle.er_merge.specs.Traces.{Divided, whole_report}
use Rattle.er_merge.specs.declared.merging.Merged.{Merged}
use Rattle.er_merge.proofs.TracePages.{pages_make_report}
use Rattle.er_parts.specs.Given.{counted_as, part_report}
use Rattle.er_parts.specs.Parts.{PartView, kept}
use Rattle.er_report.specs.Report.{told}
use Rattle.er_report.specs.Reports.{asks_locks}
use Rattle.er_report.specs.declared.report.Report.{Report}
use Rattle.er_report.specs.declared.reports.Analysis.{Analysis}
use Rattle.er_report.specs.declared.reports.Analysis.TheVariants.{Lockset}
use Rattle.er_report.specs.declared.reports.Reports.{Reports}
use Rattle.er_request.specs.declared.request.Replay.{Replay}
use Rattle.er_rules.specs.Rules.{Target, ask_facts}
use Rattle.er_run.specs.Reports.{AreReportsOfText, IsReportOfRun, report_with}
use Rattle.er_text.specs.Ending.{lost_told}
use Rattle.er_text.proofs.TextLaws.{same_trace}
use Rattle.er_trace.specs.Trace.{Recording}
use Rattle.eraser.specs.Merging.{IsMergedReplay}
use Rattle.eraser.specs.Replays.{AreCounted, IsCounted, IsCountedIf, IsOutput, MayLackRaces}

-- the report of the lockset rule, and the same with other counts
counted_told : (counts old new : Report) → IsCounted counts old new → told new ≡ counted_as (told counts) (told old)
counted_told counts old new (rules, same) =
    ap told same ∙ ap (λ (numbers : List ℕ). record (told old) { rule_counts = numbers; steps = counts.steps; suppressed = counts.suppressed }) rules

-- a run of a part that hasn't stopped
unstopped : (part : PartView) (lost : Option ℕ) (r : Recording) (rules : List Target) (explain : Bool) (report : Report) → IsReportOfRun (Some part) true lost r rules explain report
    → told report ≡ report_with (Some part) lost r rules explain None
unstopped part lost r rules explain report run = run.says ∙ ap (report_with (Some part) lost r rules explain) (run.whole refl)

lacks_none : (replay : Replay) (rules : List Target) (raced lacking : Reports) → ask_facts rules ≡ false → MayLackRaces replay rules raced lacking → raced ≡ lacking
lacks_none replay rules raced lacking none (inl same) = same
lacks_none replay rules raced lacking none (inr (asks, again, left)) = absurd (let clash : true ≡ false = sym asks ∙ none in cc)

module _ {F : Type 0} (remaining : F → Option (List ℕ)) (d : Divided) (limit : ℕ) (replay : Replay) (touches : Option (List Touch)) (bytes : List ℕ) (merges : IsMergedReplay d limit replay) (output : IsOutput remaining replay d.text touches limit d.rules bytes) where
  made : Merged
  made = merges.made

  reports : AreReportsOfText (Some made.pages) Lockset d.text touches limit d.rules replay.explain output.names output.raced
  unfolding made
  reports =
      subst (λ (part : Option PartView). AreReportsOfText part Lockset d.text touches limit d.rules replay.explain output.names output.raced) merges.part
      (subst (λ (a : Analysis). AreReportsOfText replay.part a d.text touches limit d.rules replay.explain output.names output.raced) merges.analysis output.reports)

  recorded : reports.recording ≡ kept (Some made.pages) d.trace
  recorded = reports.trace.kept ∙ ap (kept (Some made.pages)) (same_trace d.text limit reports.trace.whole d.trace reports.trace.trace merges.trace)

  raced_is : (report : Report) → IsReportOfRun (Some made.pages) true (lost_told d.text) reports.recording d.rules replay.explain report
      → told report ≡ record (part_report (Some made.pages) d.trace d.rules replay.explain) { lost = lost_told d.text }
  raced_is report run =
      unstopped made.pages (lost_told d.text) reports.recording d.rules replay.explain report run
      ∙ ap (λ (r : Recording). report_with (Some made.pages) (lost_told d.text) r d.rules replay.explain None) recorded

  whole_is : (report new : Report) → IsReportOfRun (Some made.pages) true (lost_told d.text) reports.recording d.rules replay.explain report → IsCounted made.counts report new
      → told new ≡ whole_report (record d { explain = replay.explain })
  unfolding made
  whole_is report new run counted =
      counted_told made.counts report new counted
      ∙ ap (counted_as (told made.counts)) (raced_is report run)
      ∙ pages_make_report d merges.parts merges.about merges.texts merges.are made merges.merged replay.explain

  whole_if : (old new : Option Report) → is_some new ≡ true → IfSome old (λ report. IsReportOfRun (Some made.pages) true (lost_told d.text) reports.recording d.rules replay.explain report)
      → IsCountedIf made.counts old new → IsSomeAnd new (λ report. told report ≡ whole_report (record d { explain = replay.explain }))
  whole_if None None some run counted = cc
  whole_if None (Some new) some run counted = cc
  whole_if (Some old) None some run counted = absurd counted
  whole_if (Some old) (Some new) some run counted = whole_is old new run counted

  pub whole_written : IsSomeAnd output.found.lockset (λ report. told report ≡ whole_report (record d { explain = replay.explain }))
  unfolding made
  whole_written =
      let lacking = output.facts.0 in
      let same = lacks_none replay d.rules output.raced lacking merges.no_facts output.facts.1 in
      let counted : AreCounted (Some made.counts) lacking output.found = subst (λ (counts : Option Report). AreCounted counts lacking output.found) merges.counts output.facts.2 in
      let one : IsCountedIf made.counts output.raced.lockset output.found.lockset = subst (λ (r : Reports). IsCountedIf made.counts r.lockset output.found.lockset) (sym same) counted.1 in
      whole_if output.raced.lockset output.found.lockset (output.locks ∙ ap asks_locks merges.analysis) reports.lockset one

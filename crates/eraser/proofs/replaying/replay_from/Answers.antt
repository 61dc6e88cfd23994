-- A fault from before a byte is written says whether the reader has failed, and what is delivered is of the text that is read.
use Rattle.std.proofs.Common.{List, Option}
use Rattle.er_device.specs.Device.{has_failed, inner_of}
use Rattle.er_lines.specs.declared.ready.Touch.{Touch}
use Rattle.er_rules.specs.Rules.{targets_of}
use Rattle.er_run.specs.Reports.{AreReportsOfText, IsOrderOfText}
use Rattle.er_run.specs.declared.outcome.ReplayedTrace.{ReplayedTrace}
use Rattle.er_text.specs.Ending.{IsEndingOf}
use Rattle.eraser.proofs.DeliverLemmas.{failed-before, told-err, told-ok}
use Rattle.eraser.proofs.replaying.replay_from.Goals as goal

pub returns-in-Err-clause-failed : goal.returns-in-Err-clause-failed
returns-in-Err-clause-failed g c = rw c.fault_of.ensures (failed-before ReplayedTrace (has_failed c.replay_reports.new.reader) (has_failed c.args.output.now) c.in-Err.why c.in-Err.ensures.failed c.requires.output)

pub returns-in-Ok-clause-ends : goal.returns-in-Ok-clause-ends
returns-in-Ok-clause-ends g c = λ by.
    let touches : Option (List Touch) = g.S.Shortcut.touches (inner_of c.args.source.now) in
    told-ok (g.D.Read.remaining (inner_of c.args.source.now)) c.deliver-ended.result
    (λ text. AreReportsOfText c.args.job.replay.now.part c.args.job.replay.now.analysis text touches c.args.job.options.now.byte_limit (targets_of c.args.job.suppressions.now) c.args.job.replay.now.explain c.names.result.now c.in-Ok.field-0.reports)
    (λ text. IsEndingOf text c.in-Ok.field-0.ending) (λ text. IsOrderOfText c.args.job.replay.now.part c.args.job.replay.now.analysis text c.args.job.options.now.byte_limit c.in-Ok.field-0.has_order) _
    (λ text. c.deliver-ended.ensures.ends by text touches)
    (rw (← c.names.ensures, by.run.part, by.run.explain) at c.in-Ok.ensures.reports) c.in-Ok.ensures.ending (rw by.run.part at c.in-Ok.ensures.order)

pub returns-in-Ok-clause-fails : goal.returns-in-Ok-clause-fails
returns-in-Ok-clause-fails g c = λ by.
    let touches : Option (List Touch) = g.S.Shortcut.touches (inner_of c.args.source.now) in
    told-err (g.D.Read.remaining (inner_of c.args.source.now)) c.deliver-ended.result
    (λ text. AreReportsOfText c.args.job.replay.now.part c.args.job.replay.now.analysis text touches c.args.job.options.now.byte_limit (targets_of c.args.job.suppressions.now) c.args.job.replay.now.explain c.names.result.now c.in-Ok.field-0.reports) _
    (λ text. c.deliver-ended.ensures.fails by text touches)
    (rw (← c.names.ensures, by.run.part, by.run.explain) at c.in-Ok.ensures.reports)

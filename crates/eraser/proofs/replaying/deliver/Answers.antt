-- What was delivered is the output that is asked for.
use Rattle.std.proofs.Common.{◌∙◌, false}
use Rattle.er_device.specs.Device.{has_failed, inner_of}
use Rattle.er_rules.specs.Rules.{targets_of}
use Rattle.eraser.proofs.DeliverLemmas.{ends, ends-so, still-asked, unfailed-behind}
use Rattle.eraser.proofs.replaying.deliver.Goals as goal

pub returns-in-Ok-write_reports-clause-ends : goal.returns-in-Ok-write_reports-clause-ends
returns-in-Ok-write_reports-clause-ends g c by text touches reports is order =
    let asked = still-asked c.args.job.replay.now (targets_of c.args.job.suppressions.now) c.args.reports c.in_ok-reports.reports c.in_ok-reports.ensures.left in
    ends g.R.File.Read.remaining c.args.job.replay.now text touches c.args.job.options.now.byte_limit (targets_of c.args.job.suppressions.now) c.args.names.now c.in_ok-reports.reports c.in-Ok.triaged.reports c.args.ending c.args.has_order
    (g.O.Write.contents (inner_of c.args.output.now)) (g.O.Write.contents (inner_of c.write_reports.new.output)) c.in-Ok.triaged.notes.items c.unordered_of-unordered.result c.finish.result
    (record { raced = c.args.reports; reports = reports; facts = c.in_ok-reports.ensures.left; locks = asked.0 ∙ c.requires.locks; order = asked.1 ∙ c.requires.order; first = c.in-Ok.ensures.report })
    (c.in-Ok-write_reports.ensures.shown by) c.in-Ok.ensures.says c.unordered_of-unordered.ensures
    c.finish.ensures.status c.finish.ensures.notes c.finish.ensures.text is order

pub returns-in-Ok-write_reports-clause-end : goal.returns-in-Ok-write_reports-clause-end
returns-in-Ok-write_reports-clause-end g c =
    ends-so c.args.job.replay.now c.in_ok-reports.reports c.in-Ok.triaged.reports c.args.ending c.args.has_order c.in-Ok.triaged.notes.items c.unordered_of-unordered.result c.finish.result
    c.finish.ensures.status c.finish.ensures.notes c.finish.ensures.text c.in-Ok.ensures.notes c.in-Ok.ensures.quiet
    ((still-asked c.args.job.replay.now (targets_of c.args.job.suppressions.now) c.args.reports c.in_ok-reports.reports c.in_ok-reports.ensures.left).1 ∙ c.requires.order) c.unordered_of-unordered.ensures

pub returns-in-Ok-write_reports-clause-failed : goal.returns-in-Ok-write_reports-clause-failed
returns-in-Ok-write_reports-clause-failed g c = unfailed-behind _ false (has_failed c.write_reports.new.output) c.finish.result c.in-Ok-write_reports.ensures.failed c.finish.ensures.fault

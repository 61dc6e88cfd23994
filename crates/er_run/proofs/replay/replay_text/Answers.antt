-- What was built of the text is written, and a fault before that leaves the writer alone.
use Rattle.std.proofs.Common.{Bool, Err, subst, sym}
use Rattle.er_batch.specs.declared.verdict.Verdict.{Verdict}
use Rattle.er_device.specs.Device.{has_failed, inner_of}
use Rattle.er_report.specs.declared.reports.Analysis.TheVariants.{Lockset}
use Rattle.er_rules.specs.Rules.{targets_of}
use Rattle.er_run.specs.Faults.{FailsBy}
use Rattle.er_run.specs.declared.outcome.ReplayedTrace.{ReplayedTrace}
use Rattle.er_run.proofs.PassLemmas.{part-unstopped}
use Rattle.er_run.proofs.ReplayLemmas.{failed-of, fails-again, nothing, untouched, unwritten, whole-of, whole-verdict}
use Rattle.er_run.proofs.replay.replay_text.Goals as goal

pub returns-in-Ok-clause-report : goal.returns-in-Ok-clause-report
returns-in-Ok-clause-report g c =
    whole-of _ c.args.options.now.part (g.D.Read.remaining (inner_of c.args.reader.now)) c.args.options.now.byte_limit (targets_of c.args.suppressions.now) c.args.options.now.explain _ _ c.in-Ok.found.trace.names c.in-Ok.found.reports
    c.in-Ok.ensures.asked.0 c.in-Ok.ensures.reports c.write_found-verdict.result c.in-Ok.ensures.asked.1 c.write_found-verdict.ensures.verdict c.write_found-verdict.ensures.bytes

pub returns-in-Ok-clause-fault : goal.returns-in-Ok-clause-fault
returns-in-Ok-clause-fault g c =
    failed-of _ c.args.options.now.part (g.D.Read.remaining (inner_of c.args.reader.now)) c.args.options.now.byte_limit (targets_of c.args.suppressions.now) c.args.options.now.explain _ _ c.in-Ok.found.trace.names c.in-Ok.found.reports
    c.in-Ok.ensures.asked.0 c.in-Ok.ensures.reports c.write_found-verdict.result c.write_found-verdict.ensures.bytes

pub returns-in-Ok-clause-nothing : goal.returns-in-Ok-clause-nothing
returns-in-Ok-clause-nothing g c = nothing _ _ c.in-Ok.found.trace.names c.in-Ok.found.reports.lockset c.write_found-verdict.result c.in-Ok.ensures.asked.0 c.write_found-verdict.ensures.bytes

pub returns-in-Ok-clause-whole : goal.returns-in-Ok-clause-whole
returns-in-Ok-clause-whole g c = λ several. whole-verdict c.in-Ok.found.reports c.write_found-verdict.result (c.in-Ok.ensures.whole several) c.write_found-verdict.ensures.verdict

pub returns-in-Ok-clause-unstopped : goal.returns-in-Ok-clause-unstopped
returns-in-Ok-clause-unstopped g c = λ some.
    whole-verdict c.in-Ok.found.reports c.write_found-verdict.result (c.in-Ok.ensures.unstopped (part-unstopped c.args.options.now.part Lockset some)) c.write_found-verdict.ensures.verdict

pub returns-in-Err-clause-fault : goal.returns-in-Err-clause-fault
returns-in-Err-clause-fault g c =
    unwritten c.args.options.now.part (g.D.Read.remaining (inner_of c.args.reader.now)) c.args.options.now.byte_limit (targets_of c.args.suppressions.now) c.args.options.now.explain _ _ c.in-Err.why c.in-Err.ensures.fault

pub returns-in-Err-clause-nothing : goal.returns-in-Err-clause-nothing
returns-in-Err-clause-nothing g c = untouched c.args.options.now.part (g.D.Read.remaining (inner_of c.args.reader.now)) _ c.args.options.now.byte_limit c.in-Err.why c.in-Err.ensures.fault

pub returns-in-Err-clause-failed : goal.returns-in-Err-clause-failed
returns-in-Err-clause-failed g c =
    subst (λ (b : Bool). FailsBy {X = Verdict} (has_failed c.replay_reports.new.reader) b (Err c.in-Err.why)) (sym c.requires.writer)
    (fails-again ReplayedTrace Verdict _ _ c.in-Err.why c.in-Err.ensures.failed)

-- A file gives all that it means, also behind the read that finds its form.
use Rattle.std.proofs.Common.{inr, rules, subst, sym}
use Rattle.er_binary.specs.Decoded.{source_of}
use Rattle.er_device.specs.Device.{inner_of}
use Rattle.er_exit.specs.declared.faults.Fault.{Fault}
use Rattle.er_rules.specs.Rules.{targets_of}
use Rattle.eraser.specs.Replays.{EndsAs, FailsAs, OfTraceFile}
use Rattle.eraser.proofs.EndLemmas.{unread-fails}
use Rattle.eraser.proofs.TextLemmas.{of-trace, opened, unread-in}
use Rattle.eraser.proofs.until.replay_trace.Goals as goal

pub returns-in_default-clause-file_fails : goal.returns-in_default-clause-file_fails
returns-in_default-clause-file_fails g c file whole by =
    inr (subst (λ (why : Fault). OfTraceFile g.R.File.Read.remaining c.args.job.replay.now (λ text touches limit. FailsAs g.R.File.Read.remaining c.args.job.replay.now text touches limit (targets_of c.args.job.suppressions.now) (g.O.Write.contents (inner_of c.args.output.now)) (g.O.Write.contents (inner_of c.args.output.now)) why))
    (sym c.cut_by-in_default.ensures.fault) (unread-fails g.R.File.Read.remaining c.args.job.replay.now (targets_of c.args.job.suppressions.now) (g.O.Write.contents (inner_of c.args.output.now)) (source_of c.in-Ok-open_trace.trace)))

pub returns-in-Ok-replay_from-clause-file_ends : goal.returns-in-Ok-replay_from-clause-file_ends
returns-in-Ok-replay_from-clause-file_ends g c file by =
    of-trace g.R.File.Read.remaining c.args.job.replay.now c.if-is_binary.has_own_limit c.options_of-options.result.byte_limit c.read.new.reader
    (λ text touches limit. EndsAs g.R.File.Read.remaining c.args.job.replay.now text touches limit (targets_of c.args.job.suppressions.now) (g.O.Write.contents (inner_of c.args.output.now)) (g.O.Write.contents (inner_of c.replay_from-2.new.output)) c.in-Ok-replay_from.ended)
    (rw c.asks_order.ensures at (opened g.R.File.Read.remaining c.asks_order.result c.in-Ok-read.field-0 c.read.new.buffer (inner_of c.new-source.result) (inner_of c.prepare.new.source) c.read.new.reader
    (unread-in c.new-source.result c.in-Ok-open_trace.trace c.new-source.ensures c.in-Ok-open_trace.ensures.fresh) c.prepare.ensures.text c.prepare.ensures.touches c.prepare.ensures.source c.prepare.ensures.noting (search rules)
    (rw c.inner_mut.ensures.value at c.in-Ok-read.ensures.bytes.0) (rw c.inner_mut.ensures.value at c.read.ensures.touches)))
    c.options_of-options.ensures.limit (c.in-Ok-replay_from.ensures.ends (record { run = c.options_of-options.ensures.run; headed = by.headed }))

pub returns-in-Err-3-clause-file_fails : goal.returns-in-Err-3-clause-file_fails
returns-in-Err-3-clause-file_fails g c file whole by =
    inr (subst (λ (why : Fault). OfTraceFile g.R.File.Read.remaining c.args.job.replay.now (λ text touches limit. FailsAs g.R.File.Read.remaining c.args.job.replay.now text touches limit (targets_of c.args.job.suppressions.now) (g.O.Write.contents (inner_of c.args.output.now)) (g.O.Write.contents (inner_of c.replay_from-2.new.output)) why))
    (sym c.cut_by-in-Err-3.ensures.fault) (of-trace g.R.File.Read.remaining c.args.job.replay.now c.if-is_binary.has_own_limit c.options_of-options.result.byte_limit c.read.new.reader
    (λ text touches limit. FailsAs g.R.File.Read.remaining c.args.job.replay.now text touches limit (targets_of c.args.job.suppressions.now) (g.O.Write.contents (inner_of c.args.output.now)) (g.O.Write.contents (inner_of c.replay_from-2.new.output)) c.in-Err-replay_from.fault)
    (rw c.asks_order.ensures at (opened g.R.File.Read.remaining c.asks_order.result c.in-Ok-read.field-0 c.read.new.buffer (inner_of c.new-source.result) (inner_of c.prepare.new.source) c.read.new.reader
    (unread-in c.new-source.result c.in-Ok-open_trace.trace c.new-source.ensures c.in-Ok-open_trace.ensures.fresh) c.prepare.ensures.text c.prepare.ensures.touches c.prepare.ensures.source c.prepare.ensures.noting (search rules)
    (rw c.inner_mut.ensures.value at c.in-Ok-read.ensures.bytes.0) (rw c.inner_mut.ensures.value at c.read.ensures.touches)))
    c.options_of-options.ensures.limit (c.in-Err-replay_from.ensures.fails (record { run = c.options_of-options.ensures.run; headed = by.headed }))))

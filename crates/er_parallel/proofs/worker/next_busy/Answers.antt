use Rattle.std.proofs.Common.{refl}
use Rattle.std.proofs.lemmas.Option.{slice_get_read}
use Rattle.er_parallel.proofs.TakingLemmas.{idle-on}
use Rattle.er_parallel.proofs.worker.next_busy.Goals as goal

pub loop-at-preserved : goal.loop-at-preserved
loop-at-preserved c = idle-on c.args.share c.args.from c.loop-at.at c.args.steps.now c.index-steps-at.result
    (slice_get_read c.args.steps.now _ c.loop-at.at c.index-steps-at.result refl c.loop-at-test.true c.index-steps-at.is)
    (c.is_idle.ensures.idle c.if-not-is_idle.false) c.loop-at.invariant

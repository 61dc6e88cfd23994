-- The copies are of the next steps, so the worker goes on by them.
use Rattle.std.proofs.Common.{◌≡◌, length, arith}
use Rattle.std.proofs.lemmas.List.{length-drop}
use Rattle.er_parallel.proofs.TakingLemmas.{come-none, come-end}
use Rattle.er_parallel.proofs.worker.answer_alone.Goals as goal

pub loop-from-init : goal.loop-from-init
loop-from-init c = record {
  within = omega arith;
  come = λ past follows. come-none past c.args.steps.now c.args.share c.args.found.now.items c.args.machine.now c.requires.empty follows;
}

pub loop-from-preserved : goal.loop-from-preserved
loop-from-preserved c = record {
  within = omega (arith, c.copied-near.ensures.within, length-drop c.loop-from.from c.args.steps.now, c.loop-from.invariant.within);
  come = λ past follows. c.in_ok-answer_near.ensures.far past (c.loop-from.invariant.come past follows);
}

pub returns-clause-done : goal.returns-clause-done
returns-clause-done c past follows =
    let ended : c.loop-from.from ≡ length c.args.steps.now = omega (arith, c.loop-from-test.false, c.loop-from.invariant.within) in
    come-end past c.args.steps.now c.args.share c.loop-from.found.items c.loop-from.machine c.loop-from.from ended (c.loop-from.invariant.come past follows)

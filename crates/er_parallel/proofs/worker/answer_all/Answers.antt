use Rattle.std.proofs.Common.{◌≡◌, ◌+◌, length, refl, arith}
use Rattle.std.proofs.lemmas.Option.{slice_get_read}
use Rattle.er_parallel.proofs.TakingLemmas.{come-none, come-end, come-to}
use Rattle.er_parallel.proofs.worker.answer_all.Goals as goal

pub loop-at-init : goal.loop-at-init
loop-at-init c = record {
  within = c.next_busy-at.ensures.within;
  come = λ past follows. come-to past c.args.steps.now c.args.share 0 c.next_busy-at.result c.args.found.now.items c.args.machine.now
      c.next_busy-at.ensures.behind c.next_busy-at.ensures.within c.next_busy-at.ensures.idle
      (come-none past c.args.steps.now c.args.share c.args.found.now.items c.args.machine.now c.requires.empty follows);
}

pub go_on-requires-clause-there : goal.go_on-requires-clause-there
go_on-requires-clause-there c = slice_get_read c.args.steps.now _ c.loop-at.at c.index-steps-at.result refl c.loop-at-test.true c.index-steps-at.is

pub loop-at-preserved : goal.loop-at-preserved
loop-at-preserved c =
    let next = c.next_busy-at-in-loop-at in record {
      within = next.ensures.within;
      come = λ past follows. come-to past c.args.steps.now c.args.share (c.loop-at.at + 1) next.result c.go_on.new.found.items c.go_on.new.machine
          next.ensures.behind next.ensures.within next.ensures.idle
          (c.in_default.ensures.far past (c.loop-at.invariant.come past follows));
    }

pub returns-clause-done : goal.returns-clause-done
returns-clause-done c past follows =
    let ended : c.loop-at.at ≡ length c.args.steps.now = omega (arith, c.loop-at-test.false, c.loop-at.invariant.within) in
    come-end past c.args.steps.now c.args.share c.loop-at.found.items c.loop-at.machine c.loop-at.at ended (c.loop-at.invariant.come past follows)

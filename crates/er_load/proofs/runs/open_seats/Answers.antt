use Rattle.std.proofs.Common.{◌≡◌, ◌∙◌, arith, length}
use Rattle.er_load.proofs.RunLemmas.{opened-more}
use Rattle.er_load.proofs.runs.open_seats.Goals as goal

pub loop-number-preserved : goal.loop-number-preserved
loop-number-preserved c =
    let place : c.in_ok-seat.seat.thread ≡ length c.loop-number.seats.items = omega (arith, c.if-number.false, c.number.ensures.value, c.thread.ensures, c.loop-number.invariant.count) in
    record {
      count = omega (arith, c.in-Ok.ensures.len, c.loop-number.invariant.count);
      opened = opened-more c.args.workload _ _ _ c.loop-number.invariant.opened c.in-Ok.ensures.items (c.in_ok-seat.ensures.name ∙ c.requires.name) place c.in_ok-seat.ensures.calls;
    }

use Rattle.std.proofs.Common.{◌≡◌, ◌∙◌, ◌+◌, length, suc, arith}
use Rattle.std.specs.Vec.{vec_len}
use Rattle.er_clock.proofs.ClockLemmas.{padded_is, padded_enough}
use Rattle.er_clock.proofs.block.reach.Goals as goal

pub returns-in_ok-resize-clause-ok : goal.returns-in_ok-resize-clause-ok
returns-in_ok-resize-clause-ok c =
    let kept = c.reserve_exact.ensures.len in
    let same : vec_len c.reserve_exact.new.self ≡ length c.args.counts.now.items = omega (arith, kept) in
    let next : c.args.place + 1 ≡ suc c.args.place = omega arith in
    c.in_ok-resize.ensures.items ∙ rw (same, next, c.reserve_exact.ensures.items) (padded_is (suc c.args.place) c.args.counts.now.items (omega arith))

pub returns-else-len-place-clause-ok : goal.returns-else-len-place-clause-ok
returns-else-len-place-clause-ok c = padded_enough (suc c.args.place) c.args.counts.now.items (omega arith)

use Rattle.std.proofs.Common.{◌≡◌, ◌∙◌, length, arith}
use Rattle.er_clock.proofs.ClockLemmas.{longer_is, longer_enough}
use Rattle.er_clock.proofs.block.lengthen.Goals as goal

pub returns-in_ok-extend_from_slice-clause-ok : goal.returns-in_ok-extend_from_slice-clause-ok
returns-in_ok-extend_from_slice-clause-ok c =
    let same : c.len-len.result ≡ length c.args.counts.now.items = omega arith in
    c.in_ok-extend_from_slice.ensures.items ∙ rw (c.split_at.ensures.back, c.as_slice.ensures.value, same, c.reserve_exact.ensures.items) (longer_is c.args.counts.now.items c.args.others.now.items)

pub returns-else-len-clause-ok : goal.returns-else-len-clause-ok
returns-else-len-clause-ok c = longer_enough c.args.counts.now.items c.args.others.now.items (omega arith)

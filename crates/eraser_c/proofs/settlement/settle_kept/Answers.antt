-- All handles have what is wanted, and it is settled.
use Rattle.std.proofs.Common.{◌<◌, length, arith}
use Rattle.eraser_c.proofs.SettlementLemmas.{all-settled, not-zero}
use Rattle.eraser_c.proofs.settlement.settle_kept.Goals as goal

pub returns : goal.returns
returns c =
    let some : 0 < length c.as_slice-2.result.now = omega (arith, not-zero _ _ c.is_empty.ensures c.if-is_empty.false, c.as_slice-2.ensures.len) in
    all-settled c.args.name c.args.opened _ _ c.in_ok-journals.journals.items c.as_slice-2.result.now c.in_ok-seats.seats.items c.as_slice.result.now c.settle_views.result
    c.in_ok-journals.ensures.ok c.as_slice-2.ensures.value c.in_ok-seats.ensures.ok c.as_slice.ensures.value some c.settle_views.ensures.ok c.settle_views.ensures.err

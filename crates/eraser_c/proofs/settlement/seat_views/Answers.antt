-- Each handle adds its seat, or stops the list.
use Rattle.std.proofs.Common.{refl, sym, inr}
use Rattle.std.proofs.lemmas.Option.{slice_get_read}
use Rattle.eraser_c.specs.Settlements.{seat_in}
use Rattle.eraser_c.proofs.SettlementLemmas.{each-none, each-next, each-stop, told_err}
use Rattle.eraser_c.proofs.settlement.seat_views.Goals as goal

pub loop-seat-init : goal.loop-seat-init
loop-seat-init c = each-none seat_in _ c.new-views.ensures.items

pub loop-seat-preserved : goal.loop-seat-preserved
loop-seat-preserved c =
    let here = slice_get_read c.args.seats.now _ _ c.seat-item.result refl c.loop-seat-test.true c.seat-item.is in
    each-next seat_in (λ boxed. boxed.value) c.args.seats.now c.loop-seat.seat-index c.seat-item.result here c.loop-seat.views.items c.push.new.self.items c.in_ok-view.view
    c.loop-seat.invariant (sym c.in_ok-view.ensures) c.in-Ok.ensures.items

pub returns-in_err-view-clause-err : goal.returns-in_err-view-clause-err
returns-in_err-view-clause-err c =
    let here = slice_get_read c.args.seats.now _ _ c.seat-item.result refl c.loop-seat-test.true c.seat-item.is in
    told_err c.from_residual.result c.in_err-view.field-0.0 _ c.from_residual.ensures.1
    (inr (each-stop seat_in (λ boxed. boxed.value) c.args.seats.now c.loop-seat.seat-index c.seat-item.result here c.loop-seat.views.items _ c.loop-seat.invariant (sym c.in_err-view.ensures)))

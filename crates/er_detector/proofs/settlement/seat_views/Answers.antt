use Rattle.std.proofs.Common.{refl, arith, ◌<◌, ◌^◌, ◌∙◌}
use Rattle.std.proofs.lemmas.Option.{slice_get_read, slice_get_within}
use Rattle.er_settle.specs.Seats.{SeatList}
use Rattle.er_settle.proofs.ListLemmas.{each_next, all_taken}
use Rattle.er_detector.proofs.OpenedLemmas.{viewed-more}
use Rattle.er_detector.proofs.settlement.seat_views.Goals as goal

pub loop-seat-preserved : goal.loop-seat-preserved
loop-seat-preserved c =
    let here = slice_get_read c.args.seats.now _ _ c.seat-item.result refl c.loop-seat-test.true c.seat-item.is in
    let small : c.seat-item.result.thread < 2 ^ 30 = rw (← c.thread-thread.ensures) c.number-number.ensures.limit in
    record {
      views = viewed-more c.args.seats.now c.loop-seat.seat-index c.seat-item.result _ _ _ c.loop-seat.views.items c.push.new.self.items here c.loop-seat.invariant.views c.name.ensures c.thread-thread.ensures c.calls.ensures.calls (rw c.new.ensures at c.in_ok-push.ensures.items);
      small = each_next SeatList (λ s. s.thread < 2 ^ 30) c.args.seats.now c.loop-seat.seat-index c.seat-item.result here small c.loop-seat.invariant.small;
    }

pub returns-clause-views : goal.returns-clause-views
returns-clause-views c = c.loop-seat.invariant.views ∙ all_taken c.args.seats.now c.loop-seat.seat-index c.loop-seat-test.false

pub returns-clause-small : goal.returns-clause-small
returns-clause-small c i s h = c.loop-seat.invariant.small i s (omega (arith, c.loop-seat-test.false, slice_get_within c.args.seats.now i s h)) h

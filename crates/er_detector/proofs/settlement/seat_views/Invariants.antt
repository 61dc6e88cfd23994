use Rattle.std.proofs.Common.{◌≡◌, ◌<◌, ◌^◌, ℕ, take}
use Rattle.std.specs.Prelude.{slice_get, Some}
use Rattle.er_settle.specs.Seats.{SeatList}
use Rattle.er_detector.proofs.settlement.seat_views.Given as goal

abbrev pub invariant-loop-seat : goal.invariant-loop-seat
invariant-loop-seat l = record {
  views : l.views.items ≡ take l.seat-index l.seats;
  small : (i : ℕ) (seat : SeatList) → i < l.seat-index → slice_get l.seats i ≡ Some seat → seat.thread < 2 ^ 30;
}

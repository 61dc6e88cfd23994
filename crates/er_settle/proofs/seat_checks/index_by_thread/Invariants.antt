use Rattle.std.proofs.Common.{take}
use Rattle.er_settle.specs.Faults.{AreDistinct}
use Rattle.er_settle.specs.Inner.SeatChecks.{IsIndex}
use Rattle.er_settle.proofs.seat_checks.index_by_thread.Given as goal

abbrev pub invariant-loop-at : goal.invariant-loop-at
invariant-loop-at l = record { once : AreDistinct (take l.at l.seats); index : IsIndex (take l.at l.seats) l.index }

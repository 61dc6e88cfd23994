use Rattle.std.proofs.Common.{take}
use Rattle.er_settle.specs.Faults.{CallsRise}
use Rattle.er_settle.specs.Inner.SeatChecks.{IsLast}
use Rattle.er_settle.proofs.seat_checks.calls_rise.Given as goal

abbrev pub invariant-loop-call : goal.invariant-loop-call
invariant-loop-call l = record { rise : CallsRise (take l.call-index l.calls); last : IsLast (take l.call-index l.calls) l.last }

use Rattle.std.proofs.Common.{◌<◌, ℕ}
use Rattle.er_settle.specs.Faults.{IsGiven}
use Rattle.er_settle.proofs.seat_checks.are_complete.Given as goal

abbrev pub invariant-loop-number : goal.invariant-loop-number
invariant-loop-number l = (k : ℕ) → k < l.number-counter → IsGiven l.seats k

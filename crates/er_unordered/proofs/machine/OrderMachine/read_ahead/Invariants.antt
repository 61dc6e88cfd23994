use Rattle.std.proofs.Common.{◌≡◌}
use Rattle.er_unordered.proofs.machine.OrderMachine.read_ahead.Given as goal

abbrev pub invariant-loop-place : goal.invariant-loop-place
invariant-loop-place g l = l.self-inside ≡ l.initial.self-inside

-- The word so far begins at or before this byte.
use Rattle.std.proofs.Common.{◌≤◌}
use Rattle.er_exit.proofs.hints.long_word.Given as goal

abbrev pub invariant-loop-at : goal.invariant-loop-at
invariant-loop-at l = l.start ≤ l.at

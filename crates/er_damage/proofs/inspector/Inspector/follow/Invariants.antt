-- The inspector stands for the steps so far.
use Rattle.std.proofs.Common.{◌≡◌, ◌++◌, ℕ, List, length, take}
use Rattle.er_event.specs.declared.steps.Step.{Step}
use Rattle.er_damage.specs.Standing.{StandsFor}
use Rattle.er_damage.proofs.inspector.Inspector.follow.Given as goal

abbrev pub invariant-loop-k : goal.invariant-loop-k
invariant-loop-k l = (past : List Step) (numbers : List ℕ) → length numbers ≡ length past → StandsFor l.fn.self past numbers
    → StandsFor l.self (past ++ take l.k l.steps) (numbers ++ take l.k l.lines)

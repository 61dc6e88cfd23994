use Rattle.std.proofs.Common.{◌≡◌, ◌∷◌, ◌++◌, List, ℕ, length}
use Rattle.er_rules.specs.Patterns.{pattern_takes, star, takes_end}
use Rattle.er_rules.proofs.patterns.behind_first.Given as goal

abbrev pub invariant-loop-behind : goal.invariant-loop-behind
invariant-loop-behind l = (more : List ℕ) → takes_end (pattern_takes (l.piece ++ star ∷ more)) l.fn.name ≡ takes_end (pattern_takes (l.piece ++ star ∷ more)) l.left

abbrev pub decreases-loop-behind : goal.decreases-loop-behind
decreases-loop-behind l = length l.left

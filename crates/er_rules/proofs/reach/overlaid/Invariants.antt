use Rattle.std.proofs.Common.{◌≡◌, ◌+◌, ℕ}
use Rattle.er_rules.specs.Inner.Reach.{IsOverlaid}
use Rattle.er_rules.proofs.reach.overlaid.Given as goal

abbrev pub invariant-loop-taken : goal.invariant-loop-taken
invariant-loop-taken l = ((bound : ℕ) × IsOverlaid l.first l.second l.borders.items l.i l.j l.earlier l.later bound) × (l.i + l.j ≡ l.taken)

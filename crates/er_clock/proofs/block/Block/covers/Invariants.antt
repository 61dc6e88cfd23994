use Rattle.std.proofs.Common.{◌≡◌, ◌≤◌, ◌<◌, ℕ, true, get_or}
use Rattle.er_clock.proofs.block.Block.covers.Given as goal

abbrev pub invariant-loop-place : goal.invariant-loop-place
invariant-loop-place l = l.covered ≡ true → (u : ℕ) → u < l.place → get_or l.other-inside.counts.items u 0 ≤ get_or l.self-inside.counts.items u 0

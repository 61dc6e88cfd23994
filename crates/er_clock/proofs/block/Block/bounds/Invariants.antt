use Rattle.std.proofs.Common.{◌≤◌, ◌<◌, ℕ, get_or}
use Rattle.er_clock.proofs.block.Block.bounds.Given as goal

abbrev pub invariant-loop-place : goal.invariant-loop-place
invariant-loop-place l = (u : ℕ) → u < l.place → (l.low ≤ get_or l.self-inside.counts.items u 0) × (get_or l.self-inside.counts.items u 0 ≤ l.high)

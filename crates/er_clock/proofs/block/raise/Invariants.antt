use Rattle.std.proofs.Common.{◌≡◌}
use Rattle.er_clock.specs.Inner.Merging.{merged_below}
use Rattle.er_clock.proofs.block.raise.Given as goal

abbrev pub invariant-loop-place : goal.invariant-loop-place
invariant-loop-place l = l.counts.items ≡ merged_below l.place l.fn.counts.items l.others.items

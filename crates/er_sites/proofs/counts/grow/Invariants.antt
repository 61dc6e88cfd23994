use Rattle.std.proofs.Common.{◌≡◌, ◌-◌, ◌^◌, ◌≤◌, ℕ, length, slice_index_or}
use Rattle.er_sites.proofs.counts.grow.Given as goal

abbrev pub invariant-loop-value : goal.invariant-loop-value
invariant-loop-value g l =
    ((s : ℕ) → slice_index_or l.list.items s l.value ≡ slice_index_or l.initial.list.items s l.value)
    × (length l.initial.list.items ≤ 2 ^ 32 → l.len ≤ 2 ^ 32 → length l.list.items ≤ 2 ^ 32)

abbrev pub decreases-loop-value : goal.decreases-loop-value
decreases-loop-value g l = l.len - length l.list.items

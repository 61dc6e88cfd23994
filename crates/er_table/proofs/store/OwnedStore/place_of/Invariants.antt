-- the set stands before the place where the search is, or nowhere, and what stands there has the same hash
use Rattle.std.proofs.Common.{◌≡◌, ℕ, ◌-◌, ◌<◌, ◌≤◌, length}
use Rattle.er_table.specs.Sets.{set_at}
use Rattle.er_table.specs.Owned.{cut, hash_by}
use Rattle.er_table.proofs.store.OwnedStore.place_of.Given as goal

abbrev pub invariant-loop-count : goal.invariant-loop-count
invariant-loop-count l = record {
  within : l.count ≤ length l.self-inside.spans.items;
  alike : 0 < l.count → hash_by l.self-inside.hasher (set_at (cut l.self-inside.locks.items l.self-inside.spans.items) (l.count - 1)) ≡ hash_by l.self-inside.hasher l.set;
  before : (p : ℕ) → p < length l.self-inside.spans.items → set_at (cut l.self-inside.locks.items l.self-inside.spans.items) p ≡ l.set → p < l.count;
}

abbrev pub decreases-loop-count : goal.decreases-loop-count
decreases-loop-count l = l.count

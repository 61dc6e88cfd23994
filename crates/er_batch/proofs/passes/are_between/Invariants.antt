-- It is still said that all of the lines so far are between the bounds exactly if they are.
use Rattle.std.proofs.Common.{◌≤◌, ◌<◌, ℕ, IsTrue, slice_index_or}
use Rattle.er_batch.proofs.passes.are_between.Given as goal

abbrev pub invariant-loop-at : goal.invariant-loop-at
invariant-loop-at l = record {
  between : IsTrue l.between → (k : ℕ) → k < l.at → (l.from ≤ slice_index_or l.lines k 0) × (slice_index_or l.lines k 0 < l.next);
  only : ((k : ℕ) → k < l.at → (l.from ≤ slice_index_or l.lines k 0) × (slice_index_or l.lines k 0 < l.next)) → IsTrue l.between;
}

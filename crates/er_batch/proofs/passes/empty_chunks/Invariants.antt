-- As many chunks without steps as there were turns.
use Rattle.std.proofs.Common.{◌≡◌, ◌≤◌, length}
use Rattle.er_batch.proofs.passes.empty_chunks.Given as goal
use Rattle.er_reading.specs.Chunks.{AreEmpty}

abbrev pub invariant-loop : goal.invariant-loop
invariant-loop l = record { count : length l.chunks.items ≡ l.counter; room : l.count ≤ l.chunks.cap; empty : AreEmpty l.chunks.items }

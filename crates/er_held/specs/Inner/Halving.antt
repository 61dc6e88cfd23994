-- What a search by halves knows of a list of locks. No public clause cites this file.
use Rattle.std.specs.Prelude.{◌<◌, ◌≤◌, ◌+◌, ℕ, List, length, slice_index}

-- the lock isn't before this part of the list, nor behind it, and the part isn't empty
pub record IsWithin (locks : List ℕ) (lock base size : ℕ) : Type 0 where
  pub some : 1 ≤ size
  pub inside : base + size ≤ length locks
  pub below : (k : ℕ) → k < base → slice_index locks k < lock
  pub above : (k : ℕ) → base + size ≤ k → k < length locks → lock < slice_index locks k

-- Where a lock stands in a rising list, or where it belongs. No public clause cites this file.
use Rattle.std.specs.Prelude.{◌≡◌, ◌<◌, ◌≤◌, ℕ, List, length, slice_index}

-- the lock stands at the place
pub record StandsAt (xs : List ℕ) (l i : ℕ) : Type 0 where
  pub within : i < length xs
  pub here : slice_index xs i ≡ l

-- the lock is not there, and in the place between the lower and the higher ones it would keep the list rising
pub record BelongsAt (xs : List ℕ) (l i : ℕ) : Type 0 where
  pub within : i ≤ length xs
  pub below : (k : ℕ) → k < i → slice_index xs k < l
  pub above : (k : ℕ) → i ≤ k → k < length xs → l < slice_index xs k

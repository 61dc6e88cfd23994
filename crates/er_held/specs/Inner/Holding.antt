-- The shape that a thread's two sets keep. No public clause cites this file.
use Rattle.std.specs.Prelude.{◌≡◌, ◌≤◌, ℕ, true, List, length}
use Rattle.er_event.specs.Lockset.{has, IsRising}
use Rattle.er_model.specs.Holdings.{acquired_among, at_level}

-- the set rises and ends in the locks of the level, which are its only level locks
pub record EndsInLevel (level : ℕ) (locks : List ℕ) : Type 0 where
  pub rises : IsRising locks
  pub ends : at_level level locks ≡ locks

-- the shape of a thread's sets: the write-held locks are held, and at most 64 locks are acquired
pub record IsHolding (held write_held : List ℕ) (level : ℕ) : Type 0 where
  pub any : EndsInLevel level held
  pub write : EndsInLevel level write_held
  pub within : (l : ℕ) → has write_held l ≡ true → has held l ≡ true
  pub few : length (acquired_among held) ≤ 64
  pub limit : level ≤ 31

-- The limits of a detector.
use Rattle.std.specs.Prelude.{ℕ, ◌≤◌}

-- 1 to 64 shards
abbrev pub IsShardCount : ℕ → Type 0
IsShardCount shards = (1 ≤ shards) × (shards ≤ 64)

-- 1 to 2^30 entries of a journal, or seats
abbrev pub IsLimit : ℕ → Type 0
IsLimit count = (1 ≤ count) × (count ≤ 1073741824)

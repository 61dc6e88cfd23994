-- The limits of a parallel replay.
use Rattle.std.specs.Prelude.{ℕ, ◌≤◌}
use Rattle.er_table.specs.Sets.{most_sets}

-- so many shards may be
abbrev pub IsShardCount : ℕ → Type 0
IsShardCount n = (1 ≤ n) × (n ≤ 64)

-- so many sets of locks a table may take
abbrev pub IsSetCount : ℕ → Type 0
IsSetCount n = (1 ≤ n) × (n ≤ most_sets)

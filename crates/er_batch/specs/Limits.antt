-- The limits of a replay.
use Rattle.std.specs.Prelude.{ℕ, ◌^◌, ◌≤◌}
pub use Rattle.er_table.specs.Sets.{most_sets}
pub use Rattle.er_lines.specs.Lines.{bytes_past_limit}

-- the most bytes of a text, and how many it may have unless something else is asked for
abbrev pub most_bytes : ℕ
most_bytes = 2 ^ 62

abbrev pub usual_bytes : ℕ
usual_bytes = 268435456

-- the most shards, and in how many the words are unless something else is asked for
abbrev pub most_shards : ℕ
most_shards = 64

abbrev pub usual_shards : ℕ
usual_shards = 8

-- the most workers
abbrev pub most_workers : ℕ
most_workers = 16

-- so many shards and workers may be
abbrev pub AreInLimits : ℕ → ℕ → Type 0
AreInLimits shards workers = (1 ≤ shards) × ((shards ≤ most_shards) × ((1 ≤ workers) × (workers ≤ most_workers)))

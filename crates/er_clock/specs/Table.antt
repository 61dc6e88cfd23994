-- Clocks by number.
use Rattle.std.specs.Prelude.{ℕ, nat_eq, List, unwrap_or}
use Rattle.std.specs.Map.{lookup}
use Rattle.er_clock.specs.Clock.{Counts, nothing, count_in}

-- the clock of this number; one that is not in the table has counts of 0 alone
unfoldable pub clock_at : List (ℕ × Counts) → ℕ → Counts
clock_at clocks number = unwrap_or (lookup (nat_eq number) clocks) nothing

-- the count of thread u in the clock of this number
abbrev pub known_by : List (ℕ × Counts) → ℕ → ℕ → ℕ
known_by clocks number u = count_in (clock_at clocks number) u

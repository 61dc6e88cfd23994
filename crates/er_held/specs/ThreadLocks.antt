-- What each thread holds, in a list by thread number or in a map.
use Rattle.std.specs.Prelude.{ℕ, nat_eq, Bool, true, false, List, slice_index_or, unwrap_or}
use Rattle.std.specs.Map.{lookup}
use Rattle.er_event.specs.declared.steps.Event.{Event}
use Rattle.er_event.specs.declared.steps.Event.TheVariants.{Acquire, Release, Access, Reuse, IgnoreOn, IgnoreOff, Show, Level, Sync}
use Rattle.er_held.specs.Held.{nothing_held}
use Rattle.er_model.specs.Holdings.{Holdings}

-- what the thread holds; past the end of the list nothing is held
abbrev pub held_by : List Holdings → ℕ → Holdings
held_by threads thread = slice_index_or threads thread nothing_held

-- what the thread holds; one that is not in the map holds nothing
unfoldable pub holding_among : List (ℕ × Holdings) → ℕ → Holdings
holding_among threads thread = unwrap_or (lookup (nat_eq thread) threads) nothing_held

-- the event changes what its thread holds, if it is accepted
abbrev pub changes_holdings : Event → Bool
changes_holdings (Acquire lock mode) = true
changes_holdings (Release lock mode) = true
changes_holdings (Access kind word site) = false
changes_holdings (Reuse range) = false
changes_holdings IgnoreOn = true
changes_holdings IgnoreOff = true
changes_holdings (Show word) = false
changes_holdings (Level level) = true
changes_holdings (Sync sync) = false

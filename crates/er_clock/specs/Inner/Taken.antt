-- Which threads took the clocks of locks.
use Rattle.std.specs.Prelude.{ℕ, ◌≡◌, ◌≤◌, ◌%◌, List, Option, Some, None, get_or}
use Rattle.er_clock.specs.Table.{known_by}
use Rattle.er_clock.specs.Counts.{ClockMap, known_to}
use Rattle.er_clock.specs.declared.takers.Taken.{Taken}

-- it is noted that thread t took the clock of lock l
abbrev pub HasTaken : List (Option Taken) → ℕ → ℕ → Type 0
HasTaken slots l t = get_or slots (l % 512) None ≡ Some (record { lock = l; thread = t })

-- a thread that is noted knows all that the lock's clock has
abbrev pub KnowTheirs : ClockMap → ClockMap → List (Option Taken) → Type 0
KnowTheirs threads locks slots = (l t : ℕ) → HasTaken slots l t → (u : ℕ) → known_by locks l u ≤ known_to threads t u

-- What the tables of clocks say that each thread, lock and object knows.
use Rattle.std.specs.Prelude.{ℕ, ◌==◌, max, cond, List}
use Rattle.er_clock.specs.Clock.{Counts, count_in}
use Rattle.er_clock.specs.Table.{known_by}

-- clocks by number
abbrev pub ClockMap : Type 0
ClockMap = List (ℕ × Counts)

-- a thread's own count begins at 1
abbrev pub own_begun : ℕ → ℕ → ℕ
own_begun t u = cond (t == u) 1 0

-- the count of thread u up to which thread t knows its steps
abbrev pub known_to : ClockMap → ℕ → ℕ → ℕ
known_to clocks t u = max (known_by clocks t u) (own_begun t u)

-- the count of thread u up to which the thread of this clock knows its steps
abbrev pub count_by : ℕ × Counts → ℕ → ℕ
count_by clock u = max (count_in clock.1 u) (own_begun clock.0 u)

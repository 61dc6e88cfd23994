-- What each thread of a workload does. Words count from 1024, the lock is lock 1, and sites are missing.
use Rattle.std.specs.Prelude.{ℕ, zero, suc, ◌+◌, ◌-◌, ◌*◌, ◌==◌, cond, nat_lt, List, [], ◌∷◌, ◌++◌, map, codes}
use Rattle.er_event.specs.declared.steps.Event.{Event}
use Rattle.er_event.specs.declared.steps.Event.TheVariants.{Acquire, Release, Access, Reuse, IgnoreOn, IgnoreOff}
use Rattle.er_event.specs.declared.steps.Kind.{Kind}
use Rattle.er_event.specs.declared.steps.Kind.TheVariants as kind
use Rattle.er_event.specs.declared.steps.Mode.{Mode}
use Rattle.er_event.specs.declared.steps.Mode.TheVariants as mode
use Rattle.er_event.specs.Span.{Span, parts_of}
use Rattle.er_load.specs.declared.workloads.Workload.{Workload}
use Rattle.er_load.specs.declared.workloads.Workload.TheVariants.{LockedCounter, RacyCounter, InitThenRead, RwTable, ReusePool, IgnoredStats}
use Rattle.er_load.specs.declared.workloads.Stage.{Stage}
use Rattle.er_load.specs.declared.workloads.Stage.TheVariants.{First, Second}

-- an access to a word
abbrev pub access : Kind → ℕ → Event
access kind word = Access kind word 0

-- accesses to so many words, from this one on
unfoldable pub each_word : Kind → ℕ → ℕ → List Event
each_word kind first zero = []
each_word kind first (suc count) = each_word kind first count ++ access kind (first + count) ∷ []

-- the same again, so many times
unfoldable pub times : ℕ → List Event → List Event
times zero round = []
times (suc n) round = times n round ++ round

-- what is done under the lock
abbrev pub locked : Mode → List Event → List Event
locked mode events = Acquire 1 mode ∷ events ++ Release 1 mode ∷ []

-- the words of a page
abbrev pub page : ℕ → Span
page p = record { first = 1024 * p; last = 1024 * p + 1023 }

-- the first words of a page written, and the page put to a new use
abbrev pub page_events : ℕ → List Event
page_events p = each_word kind.Write (1024 * p) 8 ++ map Reuse (parts_of (page p))

-- a word read and written
abbrev pub count_events : List Event
count_events = access kind.Read 1024 ∷ access kind.Write 1024 ∷ []

-- a word counted up in an ignore bracket
abbrev pub ignored_events : List Event
ignored_events = IgnoreOn ∷ times 10 count_events ++ IgnoreOff ∷ []

-- one round at a table, which the first thread writes and the others read
abbrev pub table_events : ℕ → List Event
table_events t = cond (t == 0) (locked mode.Write (each_word kind.Write 1024 4)) (locked mode.Read (each_word kind.Read 1024 4))

-- how many threads there are
abbrev pub thread_count : Workload → ℕ
thread_count InitThenRead = 3
thread_count RwTable = 3
thread_count _ = 2

-- what a thread does in a stage; all threads are done with the first one before the second one begins
unfoldable pub stage_events : Workload → Stage → ℕ → List Event
stage_events LockedCounter First t = times 100 (locked mode.Write count_events)
stage_events RacyCounter First t = times 2 (access kind.Write 1024 ∷ [])
stage_events InitThenRead First t = cond (t == 0) (each_word kind.Write 1024 16) []
stage_events InitThenRead Second t = cond (t == 0) [] (each_word kind.Read 1024 16)
stage_events RwTable First t = times 10 (table_events t)
stage_events ReusePool First t = page_events (1 + t)
stage_events ReusePool Second t = page_events (2 - t)
stage_events IgnoredStats First t = ignored_events
stage_events _ Second t = []

-- what a thread does in all
unfoldable pub workload_events : Workload → ℕ → List Event
workload_events workload t = cond (nat_lt t (thread_count workload)) (stage_events workload First t ++ stage_events workload Second t) []

-- how many steps all threads make
abbrev pub step_count : Workload → ℕ
step_count LockedCounter = 800
step_count RacyCounter = 4
step_count InitThenRead = 48
step_count RwTable = 180
step_count ReusePool = 36
step_count IgnoredStats = 44

-- the workload's name
abbrev pub name_of : Workload → List ℕ
name_of LockedCounter = codes "locked-counter"
name_of RacyCounter = codes "racy-counter"
name_of InitThenRead = codes "init-then-read"
name_of RwTable = codes "rw-table"
name_of ReusePool = codes "reuse-pool"
name_of IgnoredStats = codes "ignored-stats"

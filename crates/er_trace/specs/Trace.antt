-- Recorded steps, each with its line and the site that this line names, and the names that they use.
use Rattle.std.specs.Prelude.{ℕ, ◌<◌, ◌≤◌, ◌++◌, List, [], ◌∷◌, length}
use Rattle.er_trace.specs.Names.{NameTable, no_names, with_name}
use Rattle.er_event.specs.declared.steps.Event.{Event}
use Rattle.er_event.specs.declared.steps.Event.TheVariants.{Acquire, Release, Access, Reuse, IgnoreOn, IgnoreOff, Show, Level, Sync}
use Rattle.er_event.specs.declared.steps.Sync.{Sync as Order}
use Rattle.er_event.specs.declared.steps.Sync.TheVariants.{Start, Join, Signal, Await}
use Rattle.er_event.specs.declared.steps.Step.{Step}

-- the steps in order, the line of each, the site that each line names (0, the missing one, if it names none), and the names of all numbers
pub record Recording : Type 0 where
  pub steps : List Step
  pub lines : List ℕ
  pub sites : List ℕ
  pub names : NameTable

abbrev pub no_steps : Recording
no_steps = record { steps = []; lines = []; sites = []; names = no_names }

-- the thread or the object of an order event has a name
abbrev pub HasOrderNames : NameTable → Order → Type 0
HasOrderNames names (Start thread) = thread < length names.threads
HasOrderNames names (Join thread) = thread < length names.threads
HasOrderNames names (Signal object) = object < length names.locks
HasOrderNames names (Await object) = object < length names.locks

-- each number of the event but the missing site has a name
abbrev pub HasNames : NameTable → Event → Type 0
HasNames names (Acquire lock mode) = lock < length names.locks
HasNames names (Release lock mode) = lock < length names.locks
HasNames names (Access kind word site) = site ≤ length names.sites
HasNames names (Reuse range) = Unit {0}
HasNames names IgnoreOn = Unit {0}
HasNames names IgnoreOff = Unit {0}
HasNames names (Show word) = Unit {0}
HasNames names (Level level) = Unit {0}
HasNames names (Sync sync) = HasOrderNames names sync

-- and so does its thread
pub record IsNamed (names : NameTable) (step : Step) : Type 0 where
  pub thread : step.thread < length names.threads
  pub event : HasNames names step.event

-- the site is the missing one or has a name
abbrev pub HasSiteName : NameTable → ℕ → Type 0
HasSiteName names site = site ≤ length names.sites

-- the recording with one more step, its line and the site of that
abbrev pub with_step : Recording → Step → ℕ → ℕ → Recording
with_step r step line site = record r { steps = r.steps ++ step ∷ []; lines = r.lines ++ line ∷ []; sites = r.sites ++ site ∷ [] }

-- the recording with more steps, and the line and the site of each
abbrev pub with_steps : Recording → List Step → List ℕ → List ℕ → Recording
with_steps r steps lines sites = record r { steps = r.steps ++ steps; lines = r.lines ++ lines; sites = r.sites ++ sites }

-- the recording without its steps, under the same names
abbrev pub without_steps : Recording → Recording
without_steps r = record r { steps = []; lines = []; sites = [] }

-- the recording once a name of each sort has appeared
abbrev pub with_thread_name : Recording → List ℕ → Recording
with_thread_name r name = record r { names = record r.names { threads = with_name r.names.threads name } }

abbrev pub with_lock_name : Recording → List ℕ → Recording
with_lock_name r name = record r { names = record r.names { locks = with_name r.names.locks name } }

abbrev pub with_site_name : Recording → List ℕ → Recording
with_site_name r name = record r { names = record r.names { sites = with_name r.names.sites name } }

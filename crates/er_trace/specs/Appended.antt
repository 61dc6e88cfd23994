-- A recording that is appended to another one: its names are numbered again behind those that are there.
use Rattle.std.specs.Prelude.{◌≡◌, ℕ, zero, suc, ◌+◌, ◌++◌, ◌⊎◌, List, [], ◌∷◌, map, get_or, length, take}
use Rattle.er_trace.specs.declared.appending.NewTable.{NewTable}
use Rattle.er_trace.specs.Names.{NameTable, number_of, with_name}
use Rattle.er_trace.specs.Trace.{Recording}
use Rattle.er_event.specs.declared.steps.Event.{Event}
use Rattle.er_event.specs.declared.steps.Event.TheVariants.{Acquire, Release, Access, Reuse, IgnoreOn, IgnoreOff, Show, Level, Sync}
use Rattle.er_event.specs.declared.steps.Step.{Step}
use Rattle.er_event.specs.declared.steps.Sync.{Sync as Order}
use Rattle.er_event.specs.declared.steps.Sync.TheVariants.{Start, Join, Signal, Await}

-- the names that have appeared once these have, the first of them first
abbrev pub with_names : List (List ℕ) → List (List ℕ) → List (List ℕ)
with_names names [] = names
with_names names (name ∷ more) = with_names (with_name names name) more

-- the same of each sort
abbrev pub with_table : NameTable → NameTable → NameTable
with_table names more =
    record { threads = with_names names.threads more.threads; locks = with_names names.locks more.locks; sites = with_names names.sites more.sites }

-- all of these have appeared already
abbrev pub HasAll : NameTable → NameTable → Type 0
HasAll names more = with_table names more ≡ names

-- these are the first of the names, in the same order, and so have the same numbers
abbrev pub AreFirst : List (List ℕ) → List (List ℕ) → Type 0
AreFirst names first = first ≡ take (length first) names

-- the same of each sort
abbrev pub AreFirstOf : NameTable → NameTable → Type 0
AreFirstOf names first = AreFirst names.threads first.threads × AreFirst names.locks first.locks × AreFirst names.sites first.sites

-- names that begin anew over others are the first of these, perhaps none, or stay as they were if they have all appeared among these
abbrev pub BeginAnew : NameTable → NameTable → NameTable → Type 0
BeginAnew others old new = AreFirstOf others new ⊎ ((new ≡ old) × HasAll others old)

-- the name that has this number, or no byte if there is none
abbrev pub name_at : List (List ℕ) → ℕ → List ℕ
name_at names n = get_or names n []

-- the number in the new names of what has this number in the old ones
abbrev pub renumbered : List (List ℕ) → List (List ℕ) → ℕ → ℕ
renumbered old new n = number_of new (name_at old n)

-- sites are numbered from 1, and the missing site stays 0
abbrev pub renumbered_site : List (List ℕ) → List (List ℕ) → ℕ → ℕ
renumbered_site old new zero = 0
renumbered_site old new (suc n) = renumbered old new n + 1

-- the order event with the new number of its thread or object
abbrev pub renumbered_order : NameTable → NameTable → Order → Order
renumbered_order old new (Start thread) = Start (renumbered old.threads new.threads thread)
renumbered_order old new (Join thread) = Join (renumbered old.threads new.threads thread)
renumbered_order old new (Signal object) = Signal (renumbered old.locks new.locks object)
renumbered_order old new (Await object) = Await (renumbered old.locks new.locks object)

-- the event with the new numbers of what it names
abbrev pub renumbered_event : NameTable → NameTable → Event → Event
renumbered_event old new (Acquire lock mode) = Acquire (renumbered old.locks new.locks lock) mode
renumbered_event old new (Release lock mode) = Release (renumbered old.locks new.locks lock) mode
renumbered_event old new (Access kind word site) = Access kind word (renumbered_site old.sites new.sites site)
renumbered_event old new (Reuse range) = Reuse range
renumbered_event old new IgnoreOn = IgnoreOn
renumbered_event old new IgnoreOff = IgnoreOff
renumbered_event old new (Show word) = Show word
renumbered_event old new (Level level) = Level level
renumbered_event old new (Sync sync) = Sync (renumbered_order old new sync)

-- and the step with that of its thread
abbrev pub renumbered_step : NameTable → NameTable → Step → Step
renumbered_step old new step = record { thread = renumbered old.threads new.threads step.thread; event = renumbered_event old new step.event }

-- r and then the steps of q, by names of r and those of q that are new; each line of q is counted from behind so many lines
abbrev pub appended : ℕ → Recording → Recording → Recording
appended before r q = record {
  steps = r.steps ++ map (renumbered_step q.names (with_table r.names q.names)) q.steps;
  lines = r.lines ++ map (λ line. before + line) q.lines;
  sites = r.sites ++ map (renumbered_site q.names.sites (with_names r.names.sites q.names.sites)) q.sites;
  names = with_table r.names q.names;
}

-- the numbers of the old names among the new ones
pub record AreNumbers (numbers : NewTable) (old new : NameTable) : Type 0 where
  pub threads : numbers.threads ≡ map (number_of new.threads) old.threads
  pub locks : numbers.locks ≡ map (number_of new.locks) old.locks
  pub sites : numbers.sites ≡ map (number_of new.sites) old.sites

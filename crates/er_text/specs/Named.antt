-- Each step is what its line says, and each of its numbers has the name that stands there.
use Rattle.std.specs.Prelude.{◌≡◌, ℕ, ◌-◌, ◌<◌, List, [], ◌∷◌, ◌++◌, Option, Some, None}
use Rattle.std.specs.List.{Contains, slice_get}
use Rattle.er_trace.specs.Names.{NameTable}
use Rattle.er_trace.specs.Trace.{Recording}
use Rattle.er_event.specs.declared.addresses.PageRange.{PageRange}
use Rattle.er_event.specs.declared.steps.Event.{Event}
use Rattle.er_event.specs.declared.steps.Event.TheVariants as event
use Rattle.er_event.specs.declared.steps.Step.{Step}
use Rattle.er_event.specs.declared.steps.Sync.TheVariants as order
use Rattle.er_text.specs.declared.verbs.Version.{Version}
use Rattle.er_lines.specs.Lines.{Placed, words}
use Rattle.er_text.specs.Events.{EventLine, Operation, Acquires, Releases, Accesses, Reuses, IgnoresOn, IgnoresOff, Shows, Levels, Starts, Joins, Signals, Awaits, run_parts}
use Rattle.er_text.specs.Trace.{Says}

-- sites are numbered from 1, and the missing site is 0
abbrev pub IsSiteNumber : List (List ℕ) → ℕ → Option (List ℕ) → Type 0
IsSiteNumber sites n None = n ≡ 0
IsSiteNumber sites n (Some site) = (0 < n) × (slice_get sites (n - 1) ≡ Some site)

-- the event does this, under these names; a reuse is the event of one page
abbrev pub Does : NameTable → Operation → Event → Type 0
Does names (Acquires lock m) e = (n : ℕ) × (e ≡ event.Acquire n m) × (slice_get names.locks n ≡ Some lock)
Does names (Releases lock m) e = (n : ℕ) × (e ≡ event.Release n m) × (slice_get names.locks n ≡ Some lock)
Does names (Accesses k w site) e = (n : ℕ) × (e ≡ event.Access k w n) × IsSiteNumber names.sites n site
Does names (Reuses run site) e = (part : PageRange) × (e ≡ event.Reuse part) × Contains (run_parts run) part
Does names IgnoresOn e = e ≡ event.IgnoreOn
Does names IgnoresOff e = e ≡ event.IgnoreOff
Does names (Shows w) e = e ≡ event.Show w
Does names (Levels n) e = e ≡ event.Level n
Does names (Starts other) e = (n : ℕ) × (e ≡ event.Sync (order.Start n)) × (slice_get names.threads n ≡ Some other)
Does names (Joins other) e = (n : ℕ) × (e ≡ event.Sync (order.Join n)) × (slice_get names.threads n ≡ Some other)
Does names (Signals object) e = (n : ℕ) × (e ≡ event.Sync (order.Signal n)) × (slice_get names.locks n ≡ Some object)
Does names (Awaits object) e = (n : ℕ) × (e ≡ event.Sync (order.Await n)) × (slice_get names.locks n ≡ Some object)

-- the site that a line names which says this, if it names one
abbrev pub site_named : Operation → Option (List ℕ)
site_named (Accesses k w site) = site
site_named (Reuses run site) = site
site_named _ = None

-- the step is one of what the line says, and the site is the one that the line names
pub record IsToldBy (v : Version) (names : NameTable) (step : Step) (n : ℕ) (p : Placed) : Type 0 where
  pub event_line : EventLine
  pub says : Says v (words p.line.bytes) event_line
  pub thread : slice_get names.threads step.thread ≡ Some event_line.thread
  pub does : Does names event_line.operation step.event
  pub site : IsSiteNumber names.sites n (site_named event_line.operation)

-- each step is told by one of these event lines, whose number and site stand beside it
abbrev pub AreNamed : Version → List Placed → NameTable → List Step → List ℕ → List ℕ → Type 0
AreNamed v events names [] [] [] = Unit {0}
AreNamed v events names (step ∷ steps) (line ∷ lines) (site ∷ sites) =
    ((p : Placed) × Contains events p × (line ≡ p.number) × IsToldBy v names step site p) × AreNamed v events names steps lines sites
AreNamed v events names _ _ _ = ⊥

-- names that have a number keep it
abbrev pub KeepsNumbers : List (List ℕ) → List (List ℕ) → Type 0
KeepsNumbers old new = (n : ℕ) (name : List ℕ) → slice_get old n ≡ Some name → slice_get new n ≡ Some name

pub record KeepsNames (old new : NameTable) : Type 0 where
  pub threads : KeepsNumbers old.threads new.threads
  pub locks : KeepsNumbers old.locks new.locks
  pub sites : KeepsNumbers old.sites new.sites

-- the trace has more steps behind those that it had, and perhaps more names
pub record Grows (old new : Recording) : Type 0 where
  pub names : KeepsNames old.names new.names
  pub more : List Step
  pub others : List ℕ
  pub named : List ℕ
  pub steps : new.steps ≡ old.steps ++ more
  pub lines : new.lines ≡ old.lines ++ others
  pub sites : new.sites ≡ old.sites ++ named

-- What has names under some names has them under more.
use Rattle.std.proofs.Common.{◌<◌, ◌≤◌, ℕ, zero, suc, List, [], ◌∷◌, length, get_or, Result, Ok, Err, OnOk, arith}
use Rattle.std.specs.List.{All}
use Rattle.std.proofs.lemmas.Option.{slice_get_within, slice_get-get_or}
use Rattle.er_event.specs.declared.steps.Event.{Event}
use Rattle.er_event.specs.declared.steps.Event.TheVariants.{Acquire, Release, Access, Reuse, IgnoreOn, IgnoreOff, Show, Level, Sync}
use Rattle.er_event.specs.declared.steps.Step.{Step}
use Rattle.er_event.specs.declared.steps.Sync.{Sync as SyncEvent}
use Rattle.er_event.specs.declared.steps.Sync.TheVariants.{Start, Join, Signal, Await}
use Rattle.er_reading.specs.Chunks.{AreFormed}
use Rattle.er_reading.specs.declared.chunks.Chunk.{Chunk}
use Rattle.er_text.specs.Named.{Grows, KeepsNumbers, KeepsNames}
use Rattle.er_trace.specs.Names.{NameTable}
use Rattle.er_trace.specs.Trace.{Recording, IsNamed, HasSiteName, HasNames, HasOrderNames}

-- numbers that have names still have them
still : (old new : List (List ℕ)) (n : ℕ) → KeepsNumbers old new → n < length old → n < length new
still old new n kept within =
    slice_get_within new n (get_or old n []) (kept n (get_or old n []) (slice_get-get_or old n [] within))

still-site : (old new : List (List ℕ)) (n : ℕ) → KeepsNumbers old new → n ≤ length old → n ≤ length new
still-site old new zero kept within = omega arith
still-site old new (suc n) kept within = (let there : n < length new = still old new n kept (omega arith) in omega arith)

order-named : (old new : NameTable) → KeepsNames old new → (sync : SyncEvent) → HasOrderNames old sync → HasOrderNames new sync
order-named old new kept (Start thread) named = still old.threads new.threads thread kept.threads named
order-named old new kept (Join thread) named = still old.threads new.threads thread kept.threads named
order-named old new kept (Signal object) named = still old.locks new.locks object kept.locks named
order-named old new kept (Await object) named = still old.locks new.locks object kept.locks named

event-named : (old new : NameTable) → KeepsNames old new → (event : Event) → HasNames old event → HasNames new event
event-named old new kept (Acquire l m) named = still old.locks new.locks l kept.locks named
event-named old new kept (Release l m) named = still old.locks new.locks l kept.locks named
event-named old new kept (Access kind word site) named = still-site old.sites new.sites site kept.sites named
event-named old new kept (Reuse range) named = tt
event-named old new kept IgnoreOn named = tt
event-named old new kept IgnoreOff named = tt
event-named old new kept (Show w) named = tt
event-named old new kept (Level n) named = tt
event-named old new kept (Sync sync) named = order-named old new kept sync named

step-named : (old new : NameTable) → KeepsNames old new → (step : Step) → IsNamed old step → IsNamed new step
step-named old new kept step named =
    record { thread = still old.threads new.threads step.thread kept.threads named.thread; event = event-named old new kept step.event named.event }

pub all-named : (old new : NameTable) → KeepsNames old new → (steps : List Step) → All (IsNamed old) steps → All (IsNamed new) steps
all-named old new kept steps all = λ k x within. step-named old new kept _ (all k x within)

pub all-known : (old new : NameTable) → KeepsNames old new → (sites : List ℕ) → All (HasSiteName old) sites → All (HasSiteName new) sites
all-known old new kept sites all = λ k x within. still-site old.sites new.sites _ kept.sites (all k x within)

-- chunks keep their form
pub still_formed : (old new : NameTable) → KeepsNames old new → (cs : List Chunk) → AreFormed old cs → AreFormed new cs
still_formed old new kept [] formed = tt
still_formed old new kept (c ∷ cs) formed = (
  record {
    named = all-named old new kept c.steps.items formed.0.named;
    long = formed.0.long;
    known = all-known old new kept c.sites.items formed.0.known;
    one_each = formed.0.one_each;
  },
  still_formed old new kept cs formed.1,
)

pub keeps_same : (names : NameTable) → KeepsNames names names
keeps_same names = record { threads = λ n x e. e; locks = λ n x e. e; sites = λ n x e. e }

-- unless a call failed
pub names_if : {X E : Type 0} (t u : Recording) (result : Result X E) → OnOk result (Grows t u) → OnOk result (KeepsNames t.names u.names)
names_if t u (Ok x) grows = grows.names
names_if t u (Err e) grows = tt

pub formed_if : {X E : Type 0} (old new : NameTable) (cs : List Chunk) (result : Result X E) → AreFormed old cs → OnOk result (KeepsNames old new) → OnOk result (AreFormed new cs)
formed_if old new cs (Ok x) formed kept = still_formed old new kept cs formed
formed_if old new cs (Err e) formed kept = tt

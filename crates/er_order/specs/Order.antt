-- Which steps of a list happen before which: by the threads' own order and by what synchronizes two threads.
use Rattle.std.specs.Prelude.{ℕ, zero, suc, ◌==◌, nat_lt, Bool, false, not, ◌&&◌, ◌||◌, cond, List, [], ◌∷◌, slice_get, Option, Some, None}
use Rattle.std.specs.List.{list_any}
use Rattle.er_event.specs.declared.steps.Event.{Event}
use Rattle.er_event.specs.declared.steps.Event.TheVariants.{Acquire, Release, Sync}
use Rattle.er_event.specs.declared.steps.Sync.{Sync as SyncEvent}
use Rattle.er_event.specs.declared.steps.Sync.TheVariants.{Start, Join, Signal, Await}
use Rattle.er_event.specs.declared.steps.Mode.{Mode}
use Rattle.er_event.specs.declared.steps.Mode.TheVariants.{Read}
use Rattle.er_event.specs.declared.refusals.Refusal.{Refusal}
use Rattle.er_event.specs.Lockset.{has}
use Rattle.er_model.specs.Threads.{same_mode, refusal, accepted}
use Rattle.er_event.specs.declared.steps.Step.{Step}

-- what an accepted step does to the order of threads
pub data Effect : Type 0 where
  Acquired : (lock : ℕ) → (mode : Mode) → Effect
  Released : (lock : ℕ) → (mode : Mode) → Effect
  Started : (thread : ℕ) → Effect
  Joined : (thread : ℕ) → Effect
  Signalled : (object : ℕ) → Effect
  Awaited : (object : ℕ) → Effect
  Local : Effect

-- an accepted step of a thread
pub record Act : Type 0 where
  pub thread : ℕ
  pub sync : Effect

-- a list of steps, read for order: nothing if a step is refused or past the end
abbrev pub Acts : Type 0
Acts = ℕ → Option Act

-- an acquire of the lock; after a release in read mode, one to write
abbrev pub takes : Effect → ℕ → Mode → Bool
takes (Acquired lock mode) l m = lock == l && not (same_mode mode Read && same_mode m Read)
takes _ l m = false

-- an await of the object
abbrev pub awaits : Effect → ℕ → Bool
awaits (Awaited object) x = object == x
awaits _ x = false

-- a start of the thread
abbrev pub starts : Effect → ℕ → Bool
starts (Started thread) t = thread == t
starts _ t = false

-- a join of the thread
abbrev pub joins : Effect → ℕ → Bool
joins (Joined thread) t = thread == t
joins _ t = false

-- a release and an acquire of its lock, a signal and an await of its object, a start and a join of its thread
abbrev pub synchronizes : Effect → Effect → Bool
synchronizes (Released lock mode) later = takes later lock mode
synchronizes (Signalled object) later = awaits later object
synchronizes (Started thread) later = joins later thread
synchronizes _ later = false

-- two steps of one thread, a start and a step of the thread, a step and a join of its thread, or two that synchronize
unfoldable pub leads : Act → Act → Bool
leads a b = a.thread == b.thread || (starts a.sync b.thread || (joins b.sync a.thread || synchronizes a.sync b.sync))

-- the step at one position leads to the step at another; a refused step leads nowhere
abbrev pub leads_from : Option Act → Option Act → Bool
leads_from (Some a) (Some b) = leads a b
leads_from _ _ = false

-- the positions so far, with the next one if it is j or one of them leads to it
abbrev pub with_next : Acts → ℕ → ℕ → List ℕ → List ℕ
with_next acts j n so_far = cond (n == j || list_any (λ i. leads_from (acts i) (acts n)) so_far) (n ∷ so_far) so_far

-- position j, and the later ones below n that it leads to by a chain
unfoldable pub reached : Acts → ℕ → ℕ → List ℕ
reached acts j zero = []
reached acts j (suc n) = with_next acts j n (reached acts j n)

-- position j happens before position k: it stands earlier and leads to it by a chain
unfoldable pub happens_before : Acts → ℕ → ℕ → Bool
happens_before acts j k = nat_lt j k && has (reached acts j (suc k)) k

-- what an order event does to the order
abbrev pub effect_of : SyncEvent → Effect
effect_of (Start thread) = Started thread
effect_of (Join thread) = Joined thread
effect_of (Signal object) = Signalled object
effect_of (Await object) = Awaited object

-- what an event does to the order
abbrev pub sync_of : Event → Effect
sync_of (Acquire l m) = Acquired l m
sync_of (Release l m) = Released l m
sync_of (Sync sync) = effect_of sync
sync_of _ = Local

-- what the step does, unless it is refused
abbrev pub act_unless : Option Refusal → Step → Option Act
act_unless None step = Some (record { thread = step.thread; sync = sync_of step.event })
act_unless (Some refusal) step = None

-- what the step at position k does: nothing if it is refused, or if the list has no such position
abbrev pub act_after : List Step → ℕ → Option Step → Option Act
act_after steps k None = None
act_after steps k (Some step) = act_unless (refusal (accepted steps k) step.thread step.event) step

-- a list of steps, as order sees it
unfoldable pub acts_of : List Step → Acts
acts_of steps k = act_after steps k (slice_get steps k)

-- Numbers that have names keep them, and so each place has names.
use Rattle.std.proofs.Common.{◌≡◌, ℕ, zero, suc, ◌<◌, ◌≤◌, ◌==◌, Bool, true, false, cond, List, [], length, get_or, slice_get, slice_index, Option, Some, None, IfSome, refl, subst, sym, arith}
use Rattle.std.specs.List.{All}
use Rattle.std.proofs.lemmas.Option.{slice_get_within, slice_get-get_or}
use Rattle.er_event.specs.declared.steps.Event.{Event}
use Rattle.er_event.specs.declared.steps.Event.TheVariants.{Acquire, Release, Access, Reuse, IgnoreOn, IgnoreOff, Show, Level, Sync}
use Rattle.er_event.specs.declared.steps.Step.{Step}
use Rattle.er_event.specs.declared.steps.Sync.{Sync as SyncEvent}
use Rattle.er_event.specs.declared.steps.Sync.TheVariants.{Start, Join, Signal, Await}
use Rattle.er_model.specs.Holdings.{holdings_at}
use Rattle.er_places.specs.Inner.Following.{AreNamed, Followed, HasFollowed}
use Rattle.er_places.specs.Places.{HasPlaceNames, or_else, place_below, place_by, place_of}
use Rattle.er_places.specs.declared.places.Place.{Place}
use Rattle.er_report.proofs.NamedLemmas.{named_holdings, named_step}
use Rattle.er_text.specs.Named.{KeepsNumbers, KeepsNames}
use Rattle.er_trace.specs.Names.{NameTable}
use Rattle.er_trace.specs.Trace.{HasNames, HasOrderNames, IsNamed}

still : (old new : List (List ℕ)) (n : ℕ) → KeepsNumbers old new → n < length old → n < length new
still old new n kept within =
    slice_get_within new n (get_or old n []) (kept n (get_or old n []) (slice_get-get_or old n [] within))

still-site : (old new : List (List ℕ)) (n : ℕ) → KeepsNumbers old new → n ≤ length old → n ≤ length new
still-site old new zero kept within = omega arith
still-site old new (suc n) kept within = (let there : n < length new = still old new n kept (omega arith) in omega arith)

order-named : (old new : NameTable) → KeepsNames old new → (sync : SyncEvent) → HasOrderNames old sync → HasOrderNames new sync
order-named old new kept (Start thread) named = still old.threads new.threads thread kept.threads named
order-named old new kept (Join thread) named = still old.threads new.threads thread kept.threads named
order-named old new kept (Signal object) named = still old.locks new.locks object kept.locks named
order-named old new kept (Await object) named = still old.locks new.locks object kept.locks named

event-named : (old new : NameTable) → KeepsNames old new → (event : Event) → HasNames old event → HasNames new event
event-named old new kept (Acquire l m) named = still old.locks new.locks l kept.locks named
event-named old new kept (Release l m) named = still old.locks new.locks l kept.locks named
event-named old new kept (Access kind word site) named = still-site old.sites new.sites site kept.sites named
event-named old new kept (Reuse range) named = tt
event-named old new kept IgnoreOn named = tt
event-named old new kept IgnoreOff named = tt
event-named old new kept (Show w) named = tt
event-named old new kept (Level n) named = tt
event-named old new kept (Sync sync) named = order-named old new kept sync named

step-named : (old new : NameTable) → KeepsNames old new → (step : Step) → IsNamed old step → IsNamed new step
step-named old new kept step named =
    record { thread = still old.threads new.threads step.thread kept.threads named.thread; event = event-named old new kept step.event named.event }

pub all-named : (old new : NameTable) → KeepsNames old new → (steps : List Step) → All (IsNamed old) steps → All (IsNamed new) steps
all-named old new kept steps all = λ k x within. step-named old new kept _ (all k x within)

or-named : (P : Place → Type 0) (one other : Option Place) → IfSome one P → IfSome other P → IfSome (or_else one other) P
or-named P None other first second = second
or-named P (Some place) other first second = first

cond-named : (P : Place → Type 0) (b : Bool) (one other : Option Place) → IfSome one P → IfSome other P → IfSome (cond b one other) P
cond-named P true one other first second = first
cond-named P false one other first second = second

module _ (names : NameTable) (steps : List Step) (lines : List ℕ) (all : All (IsNamed names) steps) where
  by-named : (k line t : ℕ) (e : Event) → HasNames names e → IfSome (place_by (holdings_at steps t k) line t e) (HasPlaceNames names)
  by-named k line t (Access kind word site) named = record { site = named; held = (named_holdings names steps all k t).any }
  by-named k line t (Acquire l m) named = tt
  by-named k line t (Release l m) named = tt
  by-named k line t (Reuse range) named = tt
  by-named k line t IgnoreOn named = tt
  by-named k line t IgnoreOff named = tt
  by-named k line t (Show w) named = tt
  by-named k line t (Level n) named = tt
  by-named k line t (Sync sync) named = tt

  of-named : (k : ℕ) (o : Option Step) → slice_get steps k ≡ o → IfSome (place_of steps lines k o) (HasPlaceNames names)
  of-named k None is = tt
  of-named k (Some step) is = by-named k (slice_index lines k) step.thread step.event (named_step names steps all k step is).event

  below-named : (l n : ℕ) → IfSome (place_below steps lines l n) (HasPlaceNames names)
  unfolding place_below
  below-named l zero = tt
  below-named l (suc n) =
      cond-named (HasPlaceNames names) (slice_index lines n == l) (or_else (place_below steps lines l n) (place_of steps lines n (slice_get steps n))) (place_below steps lines l n)
      (or-named (HasPlaceNames names) (place_below steps lines l n) (place_of steps lines n (slice_get steps n)) (below-named l n) (of-named n (slice_get steps n) refl))
      (below-named l n)

  -- of the places that stand for these steps
  pub are-named : (wants : ℕ → Bool) (seen : Followed) → HasFollowed wants seen steps lines → AreNamed names seen.places
  are-named wants seen stands line =
      subst (λ (o : Option Place). IfSome o (HasPlaceNames names)) (sym (stands.places line))
      (cond-named (HasPlaceNames names) (wants line) (place_below steps lines line (length steps)) None (below-named line (length steps)) tt)

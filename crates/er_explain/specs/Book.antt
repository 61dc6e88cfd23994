-- What is kept of a word since its last reuse, and how its accesses are named.
use Rattle.std.specs.Prelude.{ℕ}
use Rattle.er_event.specs.declared.steps.Event.{Event}
use Rattle.er_event.specs.declared.steps.Event.TheVariants.{Access as Accessing}
use Rattle.er_event.specs.declared.steps.Kind.{Kind}
use Rattle.er_event.specs.declared.steps.Kind.TheVariants.{Read}
use Rattle.er_event.specs.declared.steps.Step.{Step}
use Rattle.er_explain.specs.Joined.{Joining}
use Rattle.er_explain.specs.declared.book.Access.{Access}

-- no access counts yet, or one thread alone has accessed the word, or a second one has joined
pub data Book (A : Type 0) : Type 0 where
  Untouched : Book A
  Owned : (thread : ℕ) → (first : A) → Book A
  Joined : (joining : Joining A) → Book A

-- the kind of an access; of another event it says nothing
abbrev pub event_kind : Event → Kind
event_kind (Accessing kind word site) = kind
event_kind event = Read

-- an access of this thread and kind, whose caller names it so
abbrev pub access_named : {A : Type 0} → A → ℕ → Kind → Access A
access_named a t kind = record { at = a; thread = t; kind = kind }

-- that of a step
abbrev pub access_of : {A : Type 0} → A → Step → Access A
access_of a step = access_named a step.thread (event_kind step.event)

-- what its caller names it
abbrev pub name_of : {A : Type 0} → Access A → A
name_of access = access.at

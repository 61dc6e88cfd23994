-- What contracts see of the locks that stamps share, of a stamp, of an entry and of a call.
use Rattle.std.specs.Prelude.{◌≡◌, ℕ, List, Option, Some, None}
use Rattle.er_event.specs.declared.addresses.PageRange.{PageRange}
use Rattle.er_event.specs.declared.steps.Event.{Event}
use Rattle.er_event.specs.declared.steps.Event.TheVariants as event
use Rattle.er_event.specs.declared.steps.Kind.{Kind}
use Rattle.er_event.specs.declared.steps.Reply.{Reply}

-- a thread, the locks that it holds in any mode, and those in write mode
pub record LocksHeld : Type 0 where
  pub thread : ℕ
  pub held : List ℕ
  pub write_held : List ℕ

-- a counted access, with its thread's locks when it was made
pub record Stamp : Type 0 where
  pub thread : ℕ
  pub word : ℕ
  pub kind : Kind
  pub site : ℕ
  pub held : List ℕ
  pub write_held : List ℕ

-- what an entry tells of: a counted access, or a reuse of these words
pub data What : Type 0 where
  Access : (stamp : Stamp) → What
  Reset : (range : PageRange) → What

-- an entry of a journal: the number that a call drew, what it was, its thread, and what it was answered
pub record Entry : Type 0 where
  pub ticket : ℕ
  pub what : What
  pub thread : ℕ
  pub reply : Reply

-- an access is stamped with this thread
abbrev pub IsStampedWith : ℕ → What → Type 0
IsStampedWith thread (Access stamp) = stamp.thread ≡ thread
IsStampedWith thread (Reset range) = Unit {0}

-- the event that an entry records
abbrev pub event_of : What → Event
event_of (Access stamp) = event.Access stamp.kind stamp.word stamp.site
event_of (Reset range) = event.Reuse range

-- the word of an access, or the first one of a reuse
abbrev pub first_word_of : What → ℕ
first_word_of (Access stamp) = stamp.word
first_word_of (Reset range) = range.lo

-- the thread of an access with its locks; a reuse has none
abbrev pub locks_of : What → Option LocksHeld
locks_of (Access stamp) = Some (record { thread = stamp.thread; held = stamp.held; write_held = stamp.write_held })
locks_of (Reset range) = None

-- an accepted call of a seat, with the number that it drew, where it stands in a journal
pub record Call : Type 0 where
  pub event : Event
  pub reply : Reply
  pub ticket : Option ℕ

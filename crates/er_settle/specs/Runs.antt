-- The run that seats' calls make, and the order that it has.
use Rattle.std.specs.Prelude.{◌≡◌, ◌<◌, ◌≤◌, ◌+◌, ◌==◌, ℕ, Bool, true, false, List, [], map, filter, count_by, slice_get, slice_index_or, Some, None, IsSome}
use Rattle.er_event.specs.declared.steps.Reply.{Reply}
use Rattle.er_event.specs.declared.steps.Reply.TheVariants.{Race}
use Rattle.er_event.specs.declared.steps.Step.{Step}
use Rattle.er_journal.specs.Entries.{Call, Entry}
use Rattle.er_settle.specs.Seats.{SeatList, calls_by}
use Rattle.er_settle.specs.Faults.{EachTwo, IsSooner, Not}

-- one call of one thread
pub record TurnShown : Type 0 where
  pub thread : ℕ
  pub call : Call

-- a turn in which the thread makes the call
abbrev pub turn_of : ℕ → Call → TurnShown
turn_of t call = record { thread = t; call = call }

-- the calls of one thread, in order
abbrev pub calls_of : ℕ → List TurnShown → List Call
calls_of t turns = map (λ a. a.call) (filter (λ a. a.thread == t) turns)

-- the turns as a list of steps
abbrev pub steps_of : List TurnShown → List Step
steps_of turns = map (λ a. record { thread = a.thread; event = a.call.event }) turns

-- the replies that the turns were given
abbrev pub replies_to : List TurnShown → List Reply
replies_to turns = map (λ a. a.call.reply) turns

-- the reply is a race
abbrev pub answers_race : Reply → Bool
answers_race Race = true
answers_race _ = false

-- how many of the replies are races
abbrev pub races_in : List Reply → ℕ
races_in replies = count_by answers_race replies

-- behind the position the thread has a call with a ticket
abbrev pub HasTicketLater : List TurnShown → ℕ → ℕ → Type 0
HasTicketLater turns k t = (m : ℕ) × (a : TurnShown) × (k < m) × (slice_get turns m ≡ Some a) × (a.thread ≡ t) × IsSome a.call.ticket

-- the next position is the same thread's
abbrev pub HasNext : List TurnShown → ℕ → ℕ → Type 0
HasNext turns k t = (a : TurnShown) × (slice_get turns (k + 1) ≡ Some a) × (a.thread ≡ t)

-- tickets rise; a call without one stands directly before its thread's next call, where one with a ticket is to come; the others without one stand at the end, by thread
pub record IsInOrder (turns : List TurnShown) : Type 0 where
  pub rise : EachTwo TurnShown (λ a b. IsSooner a.call b.call) turns
  pub before : (k : ℕ) (a : TurnShown) → slice_get turns k ≡ Some a → a.call.ticket ≡ None → HasTicketLater turns k a.thread → HasNext turns k a.thread
  pub rest : (j k : ℕ) (a b : TurnShown) → j < k → slice_get turns j ≡ Some a → slice_get turns k ≡ Some b → a.call.ticket ≡ None → Not (HasTicketLater turns j a.thread) → (b.call.ticket ≡ None) × (a.thread ≤ b.thread)

-- the steps and replies are the calls of the seats, each once and in their order, in turns that are in order
abbrev pub IsInTurn : List SeatList → List Step → List Reply → Type 0
IsInTurn seats steps replies = (turns : List TurnShown) × (steps ≡ steps_of turns) × (replies ≡ replies_to turns) × ((t : ℕ) → calls_of t turns ≡ calls_by seats t) × IsInOrder turns

-- the journal at a place
abbrev pub journal_at : List (List Entry) → ℕ → List Entry
journal_at journals p = slice_index_or journals p []

-- What the passes that make the run keep.
use Rattle.std.specs.Prelude.{◌≡◌, ◌<◌, ◌≤◌, ℕ, cond, List, [], ◌∷◌, length, take, map, filter, slice_get, slice_index, Option, Some, None}
use Rattle.std.specs.Option.{is_some}
use Rattle.er_event.specs.declared.steps.Event.{Event}
use Rattle.er_journal.specs.Entries.{Call, event_of}
use Rattle.er_settle.specs.Seats.{SeatList}
use Rattle.er_settle.specs.Faults.{IsGiven}
use Rattle.er_settle.specs.Inner.JournalOrder.{EntryAt}
use Rattle.er_settle.specs.Runs.{TurnShown, turn_of, calls_of, HasNext, HasTicketLater}

-- these calls of one thread
abbrev pub turns_by : ℕ → List Call → List TurnShown
turns_by t calls = map (turn_of t) calls

-- the calls up to the first one that has a ticket, and that one
unfoldable pub next_turn : List Call → List Call
next_turn [] = []
next_turn (c ∷ calls) = cond (is_some c.ticket) (c ∷ []) (c ∷ next_turn calls)

-- threads, tickets and events of the turns that have a ticket, in order
abbrev pub ticketed_turns : List TurnShown → List (ℕ × (Option ℕ × Event))
ticketed_turns turns = map (λ a. (a.thread, (a.call.ticket, a.call.event))) (filter (λ a. is_some a.call.ticket) turns)

-- threads, tickets and events that the entries record, in order
abbrev pub entry_turns : List EntryAt → List (ℕ × (Option ℕ × Event))
entry_turns order = map (λ d. (d.entry.thread, (Some d.entry.ticket, event_of d.entry.what))) order

-- a call without a ticket has its thread's next call behind it, and some later one with a ticket
pub record IsClosed (turns : List TurnShown) : Type 0 where
  pub each : (k : ℕ) (a : TurnShown) → slice_get turns k ≡ Some a → a.call.ticket ≡ None → HasNext turns k a.thread × HasTicketLater turns k a.thread

-- the turns up to these entries: of each seat the calls up to its place
pub record AreTaken (seats : List SeatList) (order : List EntryAt) (next : List ℕ) (turns : List TurnShown) : Type 0 where
  pub places : length next ≡ length seats
  pub calls : (i : ℕ) (s : SeatList) → slice_get seats i ≡ Some s → (calls_of s.thread turns ≡ take (slice_index next i) s.calls) × (slice_index next i ≤ length s.calls)
  pub given : (k : ℕ) (a : TurnShown) → slice_get turns k ≡ Some a → IsGiven seats a.thread
  pub told : ticketed_turns turns ≡ entry_turns order
  pub closed : IsClosed turns

-- the places of all seats, by rising number
pub record AreByNumber (seats : List SeatList) (places : List ℕ) : Type 0 where
  pub rise : (j k p q : ℕ) (r s : SeatList) → j < k → slice_get places j ≡ Some p → slice_get places k ≡ Some q → slice_get seats p ≡ Some r → slice_get seats q ≡ Some s → r.thread < s.thread
  pub inside : (k p : ℕ) → slice_get places k ≡ Some p → p < length seats
  pub all : (i : ℕ) (s : SeatList) → slice_get seats i ≡ Some s → (k : ℕ) × (slice_get places k ≡ Some i)

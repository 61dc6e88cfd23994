-- Calls and entries that agree in turn.
use Rattle.std.specs.Prelude.{◌≡◌, ℕ, List, length, map, filter, slice_get, Option, Some, ◌⊎◌}
use Rattle.std.specs.Option.{is_some}
use Rattle.er_event.specs.declared.steps.Event.{Event}
use Rattle.er_journal.specs.Entries.{Call, Entry, event_of}
use Rattle.er_settle.specs.Seats.{SeatList}
use Rattle.er_settle.specs.Faults.{place_of}
use Rattle.er_settle.specs.Faults.{IsGiven, Not}
use Rattle.er_settle.specs.declared.unsettled.Unsettled.{Unsettled}
use Rattle.er_settle.specs.declared.unsettled.Unsettled.TheVariants.{Entries, Memory}
use Rattle.er_settle.specs.Inner.JournalOrder.{EntryAt, entries_by}

-- the tickets and events of the calls that have a ticket, in order
abbrev pub ticketed_calls : List Call → List (Option ℕ × Event)
ticketed_calls calls = map (λ c. (c.ticket, c.event)) (filter (λ c. is_some c.ticket) calls)

-- the tickets and events that the entries record, in order
abbrev pub ticketed_entries : List EntryAt → List (Option ℕ × Event)
ticketed_entries group = map (λ d. (Some d.entry.ticket, event_of d.entry.what)) group

-- each entry's thread has a seat
abbrev pub AllGiven : List SeatList → List EntryAt → Type 0
AllGiven seats order = (m : ℕ) (d : EntryAt) → slice_get order m ≡ Some d → IsGiven seats d.entry.thread

-- each entry's words are those of its place
abbrev pub AllInPlace : ℕ → List EntryAt → Type 0
AllInPlace shards order = (m : ℕ) (d : EntryAt) → slice_get order m ≡ Some d → place_of shards d.entry.what ≡ d.place

-- each seat's calls with tickets are those that the entries of its thread record, in order
abbrev pub AllAgree : List SeatList → List EntryAt → Type 0
AllAgree seats order = (i : ℕ) (s : SeatList) → slice_get seats i ≡ Some s → ticketed_calls s.calls ≡ ticketed_entries (entries_by s.thread order)

-- each seat's calls with tickets and its thread's entries agree, one after the other
pub record AreInTurn (seats : List SeatList) (journals : List (List Entry)) (order : List EntryAt) : Type 0 where
  pub given : AllGiven seats order
  pub placed : AllInPlace (length journals) order
  pub turn : AllAgree seats order

-- each seat has the entries of its thread, in order
pub record AreGrouped (seats : List SeatList) (order : List EntryAt) (groups : List (List EntryAt)) : Type 0 where
  pub count : length groups ≡ length seats
  pub each : (i : ℕ) (s : SeatList) → slice_get seats i ≡ Some s → slice_get groups i ≡ Some (entries_by s.thread order)

-- an entry's thread has no seat, or there was no memory
abbrev pub IsUngiven : List SeatList → List EntryAt → Unsettled → Type 0
IsUngiven seats order fault = (fault ≡ Memory) ⊎ ((fault ≡ Entries) × Not (AllGiven seats order))

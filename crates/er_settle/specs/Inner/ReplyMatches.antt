-- Calls with tickets and the entries that they meet, seat by seat.
use Rattle.std.specs.Prelude.{◌≡◌, ◌<◌, ℕ, List, length, take, slice_get, Some, IsSome}
use Rattle.er_journal.specs.Entries.{Call}
use Rattle.er_settle.specs.Seats.{SeatList}
use Rattle.er_settle.specs.Faults.{IsAnswered}
use Rattle.er_settle.specs.Inner.JournalOrder.{EntryAt, entries_by}
use Rattle.er_settle.specs.Inner.EntryMatches.{ticketed_calls}

-- each of the first n calls that has a ticket is answered as the entry of its place among those with tickets
pub record AreAlikeBelow (n : ℕ) (s : SeatList) (group : List EntryAt) : Type 0 where
  pub each : (j : ℕ) (c : Call) (d : EntryAt) → j < n → slice_get s.calls j ≡ Some c → IsSome c.ticket → slice_get group (length (ticketed_calls (take j s.calls))) ≡ Some d → IsAnswered s j c d.entry

-- each of the seat's calls that has a ticket is answered as its entry
abbrev pub AreAlike : SeatList → List EntryAt → Type 0
AreAlike s group = AreAlikeBelow (length s.calls) s group

-- so it is for each seat, with the entries of its thread
abbrev pub AllAlike : List SeatList → List EntryAt → Type 0
AllAlike seats order = (i : ℕ) (s : SeatList) → slice_get seats i ≡ Some s → AreAlike s (entries_by s.thread order)

-- What the passes over names, numbers and tickets keep and answer.
use Rattle.std.specs.Prelude.{◌≡◌, ◌<◌, ◌≤◌, ◌⊎◌, ℕ, List, slice_get, Option, Some, None, IsSome}
use Rattle.std.specs.Ordering.{nat_cmp}
use Rattle.std.specs.BTreeMap.{get, BTreeMap}
use Rattle.er_journal.specs.Entries.{Call, Entry}
use Rattle.er_journal.specs.Journals.{IsLegalJournal}
use Rattle.er_settle.specs.Seats.{SeatList, IsSeatList}
use Rattle.er_settle.specs.Faults.{AreDistinct, Not}
use Rattle.er_settle.specs.declared.unsettled.Unsettled.{Unsettled}
use Rattle.er_settle.specs.declared.unsettled.Unsettled.TheVariants.{SeatTwice, Memory}

-- where the seat of each thread stands
pub record IsIndex (seats : List SeatList) (index : BTreeMap ℕ ℕ) : Type 0 where
  pub there : (n i : ℕ) → get nat_cmp index n ≡ Some i → (s : SeatList) × (slice_get seats i ≡ Some s) × (s.thread ≡ n)
  pub found : (i : ℕ) (s : SeatList) → slice_get seats i ≡ Some s → IsSome (get nat_cmp index s.thread)

-- two seats have one thread, or there was no memory
abbrev pub IsTwice : List SeatList → Unsettled → Type 0
IsTwice seats fault = (fault ≡ Memory) ⊎ ((fault ≡ SeatTwice) × Not (AreDistinct seats))

-- the ticket is above the last one, if there is one
abbrev pub IsAbove : Option ℕ → ℕ → Type 0
IsAbove None ticket = Unit {0}
IsAbove (Some last) ticket = last < ticket

-- the last ticket of the calls that have one, which none of theirs exceeds
abbrev pub IsLast : List Call → Option ℕ → Type 0
IsLast calls None = (k : ℕ) (c : Call) → slice_get calls k ≡ Some c → c.ticket ≡ None
IsLast calls (Some last) =
    ((k : ℕ) × (c : Call) × (slice_get calls k ≡ Some c) × (c.ticket ≡ Some last))
    × ((k : ℕ) (c : Call) (t : ℕ) → slice_get calls k ≡ Some c → c.ticket ≡ Some t → t ≤ last)

-- every seat's list is one that a seat can have
abbrev pub AreSeatLists : List SeatList → Type 0
AreSeatLists seats = (i : ℕ) (s : SeatList) → slice_get seats i ≡ Some s → IsSeatList s.thread s.calls

-- every journal is legal
abbrev pub AreLegalJournals : List (List Entry) → Type 0
AreLegalJournals journals = (p : ℕ) (entries : List Entry) → slice_get journals p ≡ Some entries → IsLegalJournal entries

-- each list is one that a seat can have, and each journal is legal
pub record AreLegal (seats : List SeatList) (journals : List (List Entry)) : Type 0 where
  pub lists : AreSeatLists seats
  pub legal : AreLegalJournals journals

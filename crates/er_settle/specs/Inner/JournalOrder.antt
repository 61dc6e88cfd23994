-- All entries in the order of their tickets.
use Rattle.std.specs.Prelude.{◌≡◌, ◌<◌, ◌≤◌, ◌+◌, ℕ, List, [], ◌==◌, length, take, map, filter, slice_get, slice_index, Option, Some, None, nat_le, if◌then◌else◌, ◌-◌, ◌^◌, ◌⊎◌}
use Rattle.er_journal.specs.Entries.{Entry}
use Rattle.er_settle.specs.Faults.{IsEntry, EachTwo, Not, JournalsRise}
use Rattle.er_settle.specs.declared.unsettled.Unsettled.{Unsettled}
use Rattle.er_settle.specs.declared.unsettled.Unsettled.TheVariants.{Order, Memory}

-- an entry with its journal's place
pub record EntryAt : Type 0 where
  pub place : ℕ
  pub entry : Entry

-- an entry at a place
abbrev pub entry_at : ℕ → Entry → EntryAt
entry_at place entry = record { place = place; entry = entry }

-- the tickets rise
pub record OrderRises (order : List EntryAt) : Type 0 where
  pub each : EachTwo EntryAt (λ d e. d.entry.ticket < e.entry.ticket) order

-- the entries of one place, in order
abbrev pub entries_at : ℕ → List EntryAt → List Entry
entries_at p order = map (λ d. d.entry) (filter (λ d. d.place == p) order)

-- the entries of one thread, in order
abbrev pub entries_by : ℕ → List EntryAt → List EntryAt
entries_by t order = filter (λ d. d.entry.thread == t) order

-- all entries of all journals, by rising ticket
pub record IsOrder (journals : List (List Entry)) (order : List EntryAt) : Type 0 where
  pub rise : OrderRises order
  pub entries : (p : ℕ) (s : List Entry) → slice_get journals p ≡ Some s → entries_at p order ≡ s
  pub inside : (k : ℕ) (d : EntryAt) → slice_get order k ≡ Some d → d.place < length journals

-- the next entry of a journal that was read so far
abbrev pub IsNext : List (List Entry) → List ℕ → ℕ → Entry → Type 0
IsNext journals read p e = IsEntry journals p (slice_index read p) e

-- the journal at the place has a next entry, and none below `count` has a sooner one
abbrev pub IsSoonest : List (List Entry) → List ℕ → ℕ → Option (ℕ × ℕ) → Type 0
IsSoonest journals read count None = (p : ℕ) (e : Entry) → p < count → Not (IsNext journals read p e)
IsSoonest journals read count (Some w) = ((e : Entry) × IsNext journals read w.1 e × (e.ticket ≡ w.0)) × ((p : ℕ) (d : Entry) → p < count → IsNext journals read p d → w.0 ≤ d.ticket)

-- the next entry there has the least ticket of all next entries
pub record IsLeast (journals : List (List Entry)) (read : List ℕ) (p : ℕ) : Type 0 where
  pub entry : Entry
  pub next : IsNext journals read p entry
  pub least : (q : ℕ) (d : Entry) → IsNext journals read q d → entry.ticket ≤ d.ticket

-- of a ticket with its place and another one, that of the sooner; the first where they are the same
abbrev pub sooner_of : Option (ℕ × ℕ) → ℕ → ℕ → Option (ℕ × ℕ)
sooner_of None ticket place = Some (ticket, place)
sooner_of (Some w) ticket place = if nat_le w.0 ticket then Some w else Some (ticket, place)

-- the ticket of the last entry taken, of which the other journals' next entries have none below it
abbrev pub IsLastTaken : List (List Entry) → List ℕ → List EntryAt → Option ℕ → Type 0
IsLastTaken journals read order None = order ≡ []
IsLastTaken journals read order (Some t) =
    ((k : ℕ) (d : EntryAt) → slice_get order k ≡ Some d → d.entry.ticket ≤ t)
    × ((q : ℕ) × (k : ℕ) × (e : Entry) × IsEntry journals q k e × (e.ticket ≡ t) × (k < slice_index read q) × ((p : ℕ) (d : Entry) → Not (p ≡ q) → IsNext journals read p d → t ≤ d.ticket))

-- the entries read so far, by rising ticket
pub record IsOrderSoFar (journals : List (List Entry)) (read : List ℕ) (order : List EntryAt) (last : Option ℕ) : Type 0 where
  pub rise : OrderRises order
  pub entries : (p : ℕ) (s : List Entry) → slice_get journals p ≡ Some s → entries_at p order ≡ take (slice_index read p) s
  pub inside : (k : ℕ) (d : EntryAt) → slice_get order k ≡ Some d → d.place < length journals
  pub ends : IsLastTaken journals read order last
  pub places : length read ≡ length journals

-- how many tickets there are above the last one
abbrev pub tickets_left : Option ℕ → ℕ
tickets_left None = 2 ^ 64
tickets_left (Some last) = 2 ^ 64 - (last + 1)

-- a fault of the journals' order, or there was no memory
abbrev pub IsDisorder : List (List Entry) → Unsettled → Type 0
IsDisorder journals fault = (fault ≡ Memory) ⊎ ((fault ≡ Order) × Not (JournalsRise journals))

-- What must hold of seats and journals, and which fault is the first if something doesn't.
use Rattle.std.specs.Prelude.{◌≡◌, ◌<◌, ℕ, List, [], ◌∷◌, length, slice_get, Some, IsSome}
use Rattle.er_journal.specs.Entries.{Call, Entry, What, event_of, first_word_of}
use Rattle.er_model.specs.Holdings.{Holdings}
use Rattle.er_journal.specs.Merges.{shard_of, stamp_by, stamps_in}
use Rattle.er_settle.specs.Seats.{SeatList, holdings_by}
use Rattle.er_settle.specs.declared.unsettled.Unsettled.{Unsettled}
use Rattle.er_settle.specs.declared.unsettled.Unsettled.TheVariants.{ForeignSeat, SeatTwice, SeatMissing, Order, Entries, Answer, Memory}

-- the fact does not hold
abbrev pub Not : Type 0 → Type 0
Not P = P → ⊥

-- every two of the list, the earlier one first
abbrev pub EachTwo : (A : Type 0) → (A → A → Type 0) → List A → Type 0
EachTwo A R xs = (j k : ℕ) (x y : A) → j < k → slice_get xs j ≡ Some x → slice_get xs k ≡ Some y → R x y

-- every seat has the detector's name
abbrev pub AreOfDetector : ℕ → List SeatList → Type 0
AreOfDetector name seats = (i : ℕ) (s : SeatList) → slice_get seats i ≡ Some s → s.name ≡ name

-- no two seats have one thread
pub record AreDistinct (seats : List SeatList) : Type 0 where
  pub apart : EachTwo SeatList (λ r s. Not (r.thread ≡ s.thread)) seats

-- a seat of this number is given
abbrev pub IsGiven : List SeatList → ℕ → Type 0
IsGiven seats n = (i : ℕ) × (s : SeatList) × (slice_get seats i ≡ Some s) × (s.thread ≡ n)

-- every opened seat is given
abbrev pub AreComplete : ℕ → List SeatList → Type 0
AreComplete opened seats = (n : ℕ) → n < opened → IsGiven seats n

-- the tickets of the two calls rise, where both have one
abbrev pub IsSooner : Call → Call → Type 0
IsSooner c d = (t u : ℕ) → c.ticket ≡ Some t → d.ticket ≡ Some u → t < u

-- the tickets of a list rise
pub record CallsRise (calls : List Call) : Type 0 where
  pub each : EachTwo Call IsSooner calls

-- the tickets of a journal rise
pub record EntriesRise (entries : List Entry) : Type 0 where
  pub each : EachTwo Entry (λ d e. d.ticket < e.ticket) entries

-- an entry, and where it stands
abbrev pub IsEntry : List (List Entry) → ℕ → ℕ → Entry → Type 0
IsEntry journals p k e = (journal : List Entry) × (slice_get journals p ≡ Some journal) × (slice_get journal k ≡ Some e)

-- a call of a seat, and where it stands
abbrev pub IsCall : List SeatList → ℕ → SeatList → ℕ → Call → Type 0
IsCall seats i s j c = (slice_get seats i ≡ Some s) × (slice_get s.calls j ≡ Some c)

-- the tickets of each seat's list rise
abbrev pub ListsRise : List SeatList → Type 0
ListsRise seats = (i : ℕ) (s : SeatList) → slice_get seats i ≡ Some s → CallsRise s.calls

-- the tickets of each journal rise, and no two journals share one
pub record JournalsRise (journals : List (List Entry)) : Type 0 where
  pub rise : (p : ℕ) (entries : List Entry) → slice_get journals p ≡ Some entries → EntriesRise entries
  pub apart : (p q j k : ℕ) (d e : Entry) → IsEntry journals p j d → IsEntry journals q k e → d.ticket ≡ e.ticket → p ≡ q

-- all tickets rise
abbrev pub AreOrdered : List SeatList → List (List Entry) → Type 0
AreOrdered seats journals = ListsRise seats × JournalsRise journals

-- the place of the shard that has the entry's words
abbrev pub place_of : ℕ → What → ℕ
place_of shards what = shard_of shards (first_word_of what)

-- a call of this thread and an entry at this place have one ticket, one thread and one event, on words of the place
pub record IsPair (shards : ℕ) (own : ℕ) (c : Call) (p : ℕ) (e : Entry) : Type 0 where
  pub ticket : c.ticket ≡ Some e.ticket
  pub thread : own ≡ e.thread
  pub event : c.event ≡ event_of e.what
  pub place : place_of shards e.what ≡ p

-- every entry has its call
abbrev pub HaveCalls : List SeatList → List (List Entry) → Type 0
HaveCalls seats journals = (p k : ℕ) (e : Entry) → IsEntry journals p k e → (i : ℕ) × (s : SeatList) × (j : ℕ) × (c : Call) × IsCall seats i s j c × IsPair (length journals) s.thread c p e

-- every call with a ticket has its entry
abbrev pub HaveEntries : List SeatList → List (List Entry) → Type 0
HaveEntries seats journals = (i : ℕ) (s : SeatList) (j : ℕ) (c : Call) → IsCall seats i s j c → IsSome c.ticket → (p : ℕ) × (k : ℕ) × (e : Entry) × IsEntry journals p k e × IsPair (length journals) s.thread c p e

-- entries and calls with tickets have one another
pub record ArePaired (seats : List SeatList) (journals : List (List Entry)) : Type 0 where
  pub calls : HaveCalls seats journals
  pub entries : HaveEntries seats journals

-- the call and the entry have one reply, and the entry's stamp is that of the call by a thread of this number that holds this
pub record IsAlike (h : Holdings) (t : ℕ) (c : Call) (e : Entry) : Type 0 where
  pub reply : e.reply ≡ c.reply
  pub stamp : stamp_by h t c.event ≡ stamps_in (e ∷ [])

-- the entry has the reply of the seat's call at place j, and the locks that the seat then held
abbrev pub IsAnswered : SeatList → ℕ → Call → Entry → Type 0
IsAnswered s j c e = IsAlike (holdings_by s.thread s.calls j) s.thread c e

-- every call and its entry have the same reply, and the entry the locks that the seat held
abbrev pub AreAnswered : List SeatList → List (List Entry) → Type 0
AreAnswered seats journals =
    (i : ℕ) (s : SeatList) (j : ℕ) (c : Call) (p k : ℕ) (e : Entry) → IsCall seats i s j c → IsEntry journals p k e → IsPair (length journals) s.thread c p e → IsAnswered s j c e

-- the fault applies, and none before it; want of memory has no such meaning
abbrev pub IsFirst : ℕ → ℕ → List SeatList → List (List Entry) → Unsettled → Type 0
IsFirst name opened seats journals ForeignSeat = Not (AreOfDetector name seats)
IsFirst name opened seats journals SeatTwice = AreOfDetector name seats × Not (AreDistinct seats)
IsFirst name opened seats journals SeatMissing = AreOfDetector name seats × AreDistinct seats × Not (AreComplete opened seats)
IsFirst name opened seats journals Order = AreOfDetector name seats × AreDistinct seats × AreComplete opened seats × Not (AreOrdered seats journals)
IsFirst name opened seats journals Entries = AreOfDetector name seats × AreDistinct seats × AreComplete opened seats × AreOrdered seats journals × Not (ArePaired seats journals)
IsFirst name opened seats journals Answer = AreOfDetector name seats × AreDistinct seats × AreComplete opened seats × AreOrdered seats journals × ArePaired seats journals × Not (AreAnswered seats journals)
IsFirst name opened seats journals Memory = Unit {0}

-- no fault applies
pub record IsSettled (name opened : ℕ) (seats : List SeatList) (journals : List (List Entry)) : Type 0 where
  pub own : AreOfDetector name seats
  pub once : AreDistinct seats
  pub all : AreComplete opened seats
  pub ordered : AreOrdered seats journals
  pub paired : ArePaired seats journals
  pub answered : AreAnswered seats journals

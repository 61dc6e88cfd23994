-- Why a fault of the entries or of the answers is the first, and that there is none.
use Rattle.std.proofs.Common.{◌≡◌, ℕ, List, inl, inr, length, subst, sym}
use Rattle.std.specs.Prelude.{Result, Ok, Err, IfErr, IsErrAnd}
use Rattle.er_journal.specs.Entries.{Entry}
use Rattle.er_settle.specs.Seats.{SeatList}
use Rattle.er_settle.specs.declared.unsettled.Unsettled.{Unsettled}
use Rattle.er_settle.specs.declared.unsettled.Unsettled.TheVariants.{Entries, Answer}
use Rattle.er_settle.specs.Faults.{AreOfDetector, AreDistinct, AreComplete, AreOrdered, ArePaired, IsFirst, IsSettled, Not}
use Rattle.er_settle.specs.Inner.JournalOrder.{EntryAt, IsOrder}
use Rattle.er_settle.specs.Inner.EntryMatches.{AreInTurn, AllGiven, AllInPlace, AllAgree, IsUngiven}
use Rattle.er_settle.specs.Inner.ReplyMatches.{AllAlike}
use Rattle.er_settle.proofs.PairLemmas.{turn-paired, paired-turn}
use Rattle.er_settle.proofs.AnswerLemmas.{alike-answered, answered-alike}

module _ (name opened : ℕ) (seats : List SeatList) (journals : List (List Entry)) (order : List EntryAt) (is : IsOrder journals order) (own : AreOfDetector name seats) (once : AreDistinct seats) (all : AreComplete opened seats) (ordered : AreOrdered seats journals) where
  entries_first : Not (AreInTurn seats journals order) → IsFirst name opened seats journals Entries
  entries_first not_so = (own, once, all, ordered, λ paired. not_so (paired-turn seats journals order is once ordered.0 paired))

  pub ungiven_first : (slice : List EntryAt) (fault : Unsettled) → slice ≡ order → IsUngiven seats slice fault → IsFirst name opened seats journals fault
  ungiven_first slice fault same (inl memory) = rw memory tt
  ungiven_first slice fault same (inr other) = rw other.0 (entries_first (λ turn. other.1 (rw same turn.given)))

  pub unplaced_first : (slice : List EntryAt) → slice ≡ order → Not (AllInPlace (length journals) slice) → IsFirst name opened seats journals Entries
  unplaced_first slice same not_so = entries_first (λ turn. not_so (rw same turn.placed))

  pub unlike_first : (slice : List EntryAt) → slice ≡ order → Not (AllAgree seats slice) → IsFirst name opened seats journals Entries
  unlike_first slice same not_so = entries_first (λ turn. not_so (rw same turn.turn))

pub all_turn : (seats : List SeatList) (journals : List (List Entry)) (order one two three : List EntryAt) → one ≡ order → two ≡ order → three ≡ order → AllGiven seats one → AllInPlace (length journals) two → AllAgree seats three → AreInTurn seats journals order
all_turn seats journals order one two three a b c given placed turn = record { given = rw a at given; placed = rw b at placed; turn = rw c at turn }

pub all_paired : (seats : List SeatList) (journals : List (List Entry)) (order one two three : List EntryAt) → IsOrder journals order → one ≡ order → two ≡ order → three ≡ order → AllGiven seats one → AllInPlace (length journals) two → AllAgree seats three → ArePaired seats journals
all_paired seats journals order one two three is a b c given placed turn = turn-paired seats journals order is (all_turn seats journals order one two three a b c given placed turn)

module _ (name opened : ℕ) (seats : List SeatList) (journals : List (List Entry)) (order slice : List EntryAt) (is : IsOrder journals order) (same : slice ≡ order) (turn : AreInTurn seats journals order)
    (own : AreOfDetector name seats) (once : AreDistinct seats) (all : AreComplete opened seats) (ordered : AreOrdered seats journals) (paired : ArePaired seats journals) where
  pub unanswered_first : Not (AllAlike seats slice) → IsFirst name opened seats journals Answer
  unanswered_first not_so = (own, once, all, ordered, paired, λ answered. not_so (rw same (answered-alike seats journals order is turn answered)))

  pub settled : AllAlike seats slice → IsSettled name opened seats journals
  settled alike = record { own = own; once = once; all = all; ordered = ordered; paired = paired; answered = alike-answered seats journals order is turn.turn (rw same at alike) }

-- an error that is handed on
pub handed_on : {T : Type 0} (r : Result T Unsettled) (fault : Unsettled) (P : Unsettled → Type 0) → IsErrAnd r (λ e. e ≡ fault) → P fault → IfErr r P
handed_on (Ok v) fault P is met = tt
handed_on (Err e) fault P is met = subst P (sym is) met

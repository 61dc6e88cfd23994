-- A count of opened seats above every number stands for each greater one: some seat is missing either way.
use Rattle.std.proofs.Common.{◌≡◌, ◌<◌, ◌≤◌, inl, inr, ◌+◌, ℕ, min, List, [], ◌∷◌, ◌++◌, take, sym, arith}
use Rattle.std.proofs.lemmas.Bool.{cases_order}
use Rattle.std.specs.Prelude.{slice_get, Some, Result, Ok, Err, IfOk, IfErr}
use Rattle.er_journal.specs.Entries.{Call, Entry}
use Rattle.er_settle.specs.Seats.{SeatList}
use Rattle.er_settle.proofs.ListLemmas.{take_next}
use Rattle.er_settle.specs.Faults.{AreComplete, IsGiven, IsFirst, IsSettled}
use Rattle.er_settle.specs.declared.unsettled.Unsettled.{Unsettled}
use Rattle.er_settle.specs.declared.unsettled.Unsettled.TheVariants.{ForeignSeat, SeatTwice, SeatMissing, Order, Entries, Answer, Memory}
use Rattle.er_detector.specs.Settlement.{MayBeFirst}

-- one seat more is viewed as it is
pub viewed-more : (seats : List SeatList) (k : ℕ) (seat : SeatList) (name thread : ℕ) (calls : List Call) (views now : List SeatList) → slice_get seats k ≡ Some seat → views ≡ take k seats
    → name ≡ seat.name → thread ≡ seat.thread → calls ≡ seat.calls → now ≡ views ++ record { name = name; thread = thread; calls = calls } ∷ [] → now ≡ take (k + 1) seats
viewed-more seats k seat name thread calls views now here so_far named numbered listed grown = rw (grown, named, numbered, listed, so_far) (sym (take_next seats k seat here))

module _ (limit top name opened fewer : ℕ) (seats : List SeatList) (journals : List (List Entry)) (small : (i : ℕ) (seat : SeatList) → slice_get seats i ≡ Some seat → seat.thread < limit) (least : fewer ≡ min opened top) (high : limit < top) where
  fewer_given : AreComplete opened seats → AreComplete fewer seats
  fewer_given all n inside = all n (omega (arith, inside, least))

  none_missing : AreComplete fewer seats → (n : ℕ) → n < opened → fewer ≤ n → IsGiven seats n
  none_missing all n inside past =
      let one = all limit (omega (arith, inside, past, least, high)) in
      absurd (omega (arith, one.3, small one.0 one.1 one.2))

  all_given : AreComplete fewer seats → AreComplete opened seats
  all_given all n inside = elim (cases_order n fewer) [
    | inl same ↦ none_missing all n inside (omega (arith, same))
    | inr other ↦ elim other [ inl less ↦ all n less | inr more ↦ none_missing all n inside (omega (arith, more)) ]
  ]

  first_given : (fault : Unsettled) → IsFirst name fewer seats journals fault → IsFirst name opened seats journals fault
  first_given ForeignSeat h = h
  first_given SeatTwice h = h
  first_given SeatMissing h = (h.0, h.1, λ all. h.2 (fewer_given all))
  first_given Order h = (h.0, h.1, all_given h.2, h.3)
  first_given Entries h = (h.0, h.1, all_given h.2, h.3, h.4)
  first_given Answer h = (h.0, h.1, all_given h.2, h.3, h.4, h.5)
  first_given Memory h = tt

  pub first_opened : {T : Type 0} (r : Result T Unsettled) → IfErr r (IsFirst name fewer seats journals) → IfErr r (IsFirst name opened seats journals)
  first_opened (Ok run) h = h
  first_opened (Err fault) h = first_given fault h

  pub settled_opened : {T : Type 0} (r : Result T Unsettled) → IfOk r (λ run. IsSettled name fewer seats journals) → IfOk r (λ run. IsSettled name opened seats journals)
  settled_opened (Ok run) h = record { own = h.own; once = h.once; all = all_given h.all; ordered = h.ordered; paired = h.paired; answered = h.answered }
  settled_opened (Err fault) h = h

-- what the seats show of the first fault, where no more seats were opened than the detector opens
first_shown : (name opened most : ℕ) (seats : List SeatList) (journals : List (List Entry)) → opened ≤ most → (fault : Unsettled) → IsFirst name opened seats journals fault → MayBeFirst name most seats fault
first_shown name opened most seats journals below ForeignSeat h = h
first_shown name opened most seats journals below SeatTwice h = h
first_shown name opened most seats journals below SeatMissing h = (h.0, h.1, λ all. h.2 (λ n inside. all n (omega (arith, inside, below))))
first_shown name opened most seats journals below Order h = (h.0, h.1)
first_shown name opened most seats journals below Entries h = (h.0, h.1)
first_shown name opened most seats journals below Answer h = (h.0, h.1)
first_shown name opened most seats journals below Memory h = tt

pub err_shown : {T : Type 0} (name opened most : ℕ) (seats : List SeatList) (journals : List (List Entry)) → opened ≤ most → (r : Result T Unsettled)
    → IfErr r (IsFirst name opened seats journals) → IfErr r (MayBeFirst name most seats)
err_shown name opened most seats journals below (Ok run) h = h
err_shown name opened most seats journals below (Err fault) h = first_shown name opened most seats journals below fault h

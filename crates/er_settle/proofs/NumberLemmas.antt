-- Where the seats of numbers stand.
use Rattle.std.proofs.Common.{◌≡◌, ◌≢◌, ℕ, ◌+◌, ◌<◌, List, [], ◌∷◌, ◌++◌, true, false, cond, length, take, refl, sym, ap, ◌∙◌, arith, inl, inr, ◌⊎◌}
use Rattle.std.specs.Prelude.{slice_get, Some, None, Option, IsSome}
use Rattle.std.specs.Option.{is_some}
use Rattle.std.specs.Ordering.{nat_cmp, is_eq}
use Rattle.std.specs.BTreeMap.{get, BTreeMap}
use Rattle.std.proofs.lemmas.Bool.{cases_order}
use Rattle.std.proofs.lemmas.Bool.Decides.{nat_tests}
use Rattle.er_settle.proofs.ListLemmas.{get_push}
use Rattle.er_settle.specs.Seats.{SeatList}
use Rattle.er_settle.specs.Faults.{AreDistinct, AreComplete, IsGiven, Not}
use Rattle.er_settle.specs.Inner.SeatChecks.{IsIndex}
use Rattle.er_event.proofs.Lists.{get_last}
use Rattle.er_settle.proofs.ListLemmas.{take_next, get_front, got_before, each_two-push, length_front}

cmp_here : (k : ℕ) → is_eq (nat_cmp k k) ≡ true
cmp_here k = grind (arith, nat_tests)

cmp_apart : (k q : ℕ) → k ≢ q → is_eq (nat_cmp k q) ≡ false
cmp_apart k q apart = grind (arith, nat_tests)

pub some_is : (o : Option ℕ) → IsSome o → is_some o ≡ false → ⊥
some_is None h e = absurd (cc)
some_is (Some x) h e = cc

pub is_some-of : (o : Option ℕ) → is_some o ≡ true → (x : ℕ) × (o ≡ Some x)
is_some-of None h = absurd (cc)
is_some-of (Some x) h = (x, refl)

pub eq_or : (m n : ℕ) → (m ≡ n) ⊎ (m ≢ n)
eq_or m n = elim (cases_order m n) [ inl same ↦ inl same | inr other ↦ inr (λ e. elim other [ inl less ↦ omega (arith, e) | inr more ↦ omega (arith, e) ]) ]

module _ (seats : List SeatList) (s : SeatList) (old new : BTreeMap ℕ ℕ) where
  once-more : AreDistinct seats → IsIndex seats old → is_some (get nat_cmp old s.thread) ≡ false → AreDistinct (seats ++ s ∷ [])
  once-more once index fresh = record {
    apart = each_two-push SeatList (λ r q. Not (r.thread ≡ q.thread)) seats s once.apart
        (λ k x h same. some_is (get nat_cmp old s.thread) (rw (← same) (index.found k x h)) fresh);
  }

  index-more : IsIndex seats old → ((q : ℕ) → get nat_cmp new q ≡ cond (is_eq (nat_cmp s.thread q)) (Some (length seats)) (get nat_cmp old q)) → IsIndex (seats ++ s ∷ []) new
  index-more index grown = record {
    there = λ n i h. elim (eq_or s.thread n) [
      | inl same ↦ (
          let e : get nat_cmp new n ≡ Some (length seats) = grown n ∙ rw (same, cmp_here n) refl in
          let both : Some (length seats) ≡ Some i = sym e ∙ h in
          let is : length seats ≡ i = cc in
          (s, rw (← is) (get_last seats s), same))
      | inr other ↦ (
          let e : get nat_cmp new n ≡ get nat_cmp old n = grown n ∙ rw (cmp_apart s.thread n other) refl in
          let old_one = index.there n i (sym e ∙ h) in
          (old_one.0, got_before seats s i old_one.0 old_one.1, old_one.2))
    ];
    found = λ i x h. elim (eq_or s.thread x.thread) [
      | inl same ↦ rw (grown x.thread, same, cmp_here x.thread) refl
      | inr other ↦ elim (get_push seats s x i h) [
        | inl p ↦ rw (grown x.thread, cmp_apart s.thread x.thread other) (index.found i x p)
        | inr p ↦ absurd (other (ap (λ (y : SeatList). y.thread) (sym p.1)))
      ]
    ];
  }

-- one more seat
pub numbers-more : (seats : List SeatList) (at number : ℕ) (s : SeatList) (old new : BTreeMap ℕ ℕ) → slice_get seats at ≡ Some s → number ≡ s.thread → AreDistinct (take at seats) → IsIndex (take at seats) old
    → is_some (get nat_cmp old number) ≡ false → ((q : ℕ) → get nat_cmp new q ≡ cond (is_eq (nat_cmp number q)) (Some at) (get nat_cmp old q))
    → AreDistinct (take (at + 1) seats) × IsIndex (take (at + 1) seats) new
numbers-more seats at number s old new here is once index fresh grown =
    let count : length (take at seats) ≡ at = length_front seats at s here in
    rw (take_next seats at s here) (
      once-more (take at seats) s old new once index (rw is at fresh),
      index-more (take at seats) s old new index (rw (← is, count) grown),
    )

-- a number that was given before
pub twice : (seats : List SeatList) (at number : ℕ) (s : SeatList) (index : BTreeMap ℕ ℕ) → slice_get seats at ≡ Some s → number ≡ s.thread → IsIndex (take at seats) index → is_some (get nat_cmp index number) ≡ true → Not (AreDistinct seats)
twice seats at number s index here is old given once =
    let found = is_some-of (get nat_cmp index number) given in
    let first = old.there number found.0 found.1 in
    let front = get_front seats at found.0 first.0 first.1 in
    once.apart found.0 at first.0 s front.0 front.1 here (first.2 ∙ is)

-- a number that the index has, or hasn't
pub given : (seats : List SeatList) (index : BTreeMap ℕ ℕ) (n : ℕ) → IsIndex seats index → is_some (get nat_cmp index n) ≡ true → IsGiven seats n
given seats index n old some = let found = is_some-of (get nat_cmp index n) some in let seat = old.there n found.0 found.1 in (found.0, seat.0, seat.1, seat.2)

pub missing : (opened : ℕ) (seats : List SeatList) (index : BTreeMap ℕ ℕ) (n : ℕ) → IsIndex seats index → n < opened → is_some (get nat_cmp index n) ≡ false → Not (AreComplete opened seats)
missing opened seats index n old below none all =
    let seat = all n below in
    some_is (get nat_cmp index n) (rw (← seat.3) (old.found seat.0 seat.1 seat.2)) none

pub given-more : (seats : List SeatList) (n : ℕ) → ((k : ℕ) → k < n → IsGiven seats k) → IsGiven seats n → (k : ℕ) → k < n + 1 → IsGiven seats k
given-more seats n all here k below = elim (cases_order k n) [ inl same ↦ rw same here | inr other ↦ elim other [ inl less ↦ all k less | inr more ↦ absurd (omega arith) ] ]

-- What is left of each seat's calls has no ticket, and comes at the end by number; so all turns are in order.
use Rattle.std.proofs.Common.{◌≡◌, ℕ, ◌+◌, ◌<◌, ◌≤◌, List, [], ◌∷◌, ◌++◌, Bool, true, false, cond, length, append_assoc, append-nil, take, drop, refl, sym, ap, ◌∙◌, arith, zero, suc, inl, inr, ◌⊎◌}
use Rattle.std.specs.Prelude.{slice_get, slice_index, Some, None, Option, filter, ◌==◌}
use Rattle.std.specs.Option.{is_some}
use Rattle.std.specs.Ordering.{nat_cmp}
use Rattle.std.specs.declared.cmp.Ordering.TheVariants.{Less}
use Rattle.std.specs.BTreeMap.{get, BTreeMap, IsOrdered, keys, values}
use Rattle.std.proofs.lemmas.Bool.{eq-eqb, cases_order}
use Rattle.std.proofs.lemmas.Bool.Decides.{nat_tests, eqb_tells}
use Rattle.std.proofs.lemmas.Cmp.{nat_cmp_total}
use Rattle.std.proofs.lemmas.Map.Keys.{Less-from_sorted}
use Rattle.std.proofs.lemmas.Map.Entries.{btree_map_get_place, place_from_lookup}
use Rattle.std.proofs.lemmas.List.{take-append-drop, append_cancel_left}
use Rattle.std.proofs.lemmas.Option.{slice_get_within, get_or_from_slice_get}
use Rattle.er_event.specs.declared.steps.Event.{Event}
use Rattle.er_journal.specs.Entries.{Call, event_of}
use Rattle.er_settle.specs.Seats.{SeatList, calls_by}
use Rattle.er_settle.specs.Faults.{EachTwo, AreDistinct, IsGiven, IsSooner, Not}
use Rattle.er_settle.specs.Inner.SeatChecks.{IsIndex}
use Rattle.er_settle.specs.Inner.JournalOrder.{EntryAt, OrderRises, entries_by}
use Rattle.er_settle.specs.Inner.EntryMatches.{ticketed_calls, ticketed_entries, AllAgree}
use Rattle.er_settle.specs.Inner.CallOrder.{turns_by, next_turn, ticketed_turns, entry_turns, AreTaken, AreByNumber}
use Rattle.er_settle.specs.Runs.{TurnShown, turn_of, calls_of, HasTicketLater, IsInOrder}
use Rattle.er_settle.proofs.ListLemmas.{each_two-none}
use Rattle.er_settle.proofs.NumberLemmas.{is_some-of}
use Rattle.er_settle.proofs.OrderLemmas.{mapped, head_to, tail_two, cons_two}
use Rattle.er_settle.proofs.PairLemmas.{to_map, to_filter, once_at, is_some_true}
use Rattle.er_event.proofs.Lists.{get_still}
use Rattle.er_settle.proofs.TurnLemmas.{get_both, asks_both, whole_turn, all_bare, calls_both, asked_both, calls_same, calls_other, own_told, turns_whose}

abbrev Key : Type 0
Key = Option ℕ × Event

-- Seats by rising number.

less : (a b : ℕ) → nat_cmp a b ≡ Less → a < b
less a b h = grind (arith, nat_tests)

module _ (seats : List SeatList) (index : BTreeMap ℕ ℕ) (once : AreDistinct seats) (at : IsIndex seats index) (ordered : IsOrdered nat_cmp index) where
  number_at : (k p : ℕ) → slice_get (values index) k ≡ Some p → (n : ℕ) × (s : SeatList) × (slice_get (keys index) k ≡ Some n) × (slice_get seats p ≡ Some s) × (s.thread ≡ n)
  number_at k p h =
      let e = mapped {B = ℕ} (λ (x : ℕ × ℕ). x.1) index.entries k p h in
      let pair : slice_get index.entries k ≡ Some (e.0.0, p) = e.1 ∙ ap (λ (v : ℕ). Some (e.0.0, v)) e.2 in
      let seat = at.there e.0.0 p (btree_map_get_place nat_cmp_total index k e.0.0 p ordered pair) in
      (e.0.0, seat.0, to_map {B = ℕ} (λ (x : ℕ × ℕ). x.0) index.entries k (e.0.0, p) pair, seat.1, seat.2)

  pub by-number : (places : List ℕ) → places ≡ values index → AreByNumber seats places
  by-number places same = rw same (record {
    rise = λ j k p q r s below hp hq hr hs.
        let a = number_at j p hp in
        let b = number_at k q hq in
        let sorted = Less-from_sorted nat_cmp (keys index) j k 0 ordered below (slice_get_within (keys index) k b.0 b.2) in
        let numbers : nat_cmp a.0 b.0 ≡ Less = rw (get_or_from_slice_get (keys index) j a.0 0 a.2, get_or_from_slice_get (keys index) k b.0 0 b.2) at sorted in
        let low : r.thread ≡ a.0 = ap (λ (x : SeatList). x.thread) (seat_is p r a.1 hr a.3) ∙ a.4 in
        let high : s.thread ≡ b.0 = ap (λ (x : SeatList). x.thread) (seat_is q s b.1 hs b.3) ∙ b.4 in
        (let l = less a.0 b.0 numbers in omega (arith, l, low, high));
    inside = λ k p h. let a = number_at k p h in slice_get_within seats p a.1 a.3;
    all = λ i s h.
        let found = is_some-of (get nat_cmp index s.thread) (at.found i s h) in
        let seat = at.there s.thread found.0 found.1 in
        let same_place : found.0 ≡ i = once_at seats found.0 i seat.0 s once seat.1 h seat.2 in
        let place = place_from_lookup _ index.entries found.0 found.1 in
        (place.0, to_map {B = ℕ} (λ (x : ℕ × ℕ). x.1) index.entries place.0 (place.1, found.0) place.2 ∙ ap (λ (n : ℕ). Some n) same_place);
  })
    where
      seat_is : (p : ℕ) (r s : SeatList) → slice_get seats p ≡ Some r → slice_get seats p ≡ Some s → r ≡ s
      seat_is p r s hr hs = let both : Some r ≡ Some s = sym hr ∙ hs in cc

-- The calls of every thread.

unfold_calls : (s : SeatList) (seats : List SeatList) (t : ℕ) → calls_by (s ∷ seats) t ≡ cond (s.thread == t) s.calls (calls_by seats t)
unfolding calls_by
unfold_calls s seats t = refl

tail_once : (s : SeatList) (seats : List SeatList) → AreDistinct (s ∷ seats) → AreDistinct seats
tail_once s seats once = record { apart = tail_two SeatList (λ r q. Not (r.thread ≡ q.thread)) s seats once.apart }

pub calls_given : (seats : List SeatList) (i : ℕ) (s : SeatList) → AreDistinct seats → slice_get seats i ≡ Some s → calls_by seats s.thread ≡ s.calls
calls_given [] i s once h = absurd (cc)
calls_given (r ∷ seats) zero s once h = let same : r ≡ s = cc in rw same (unfold_calls s seats s.thread ∙ rw (eq-eqb s.thread s.thread refl) refl)
calls_given (r ∷ seats) (suc i) s once h =
    let apart : Not (r.thread ≡ s.thread) = head_to SeatList (λ x y. Not (x.thread ≡ y.thread)) r seats once.apart i s h in
    elim (eqb_tells r.thread s.thread) [ inl hit ↦ absurd (apart hit.1) | inr miss ↦ unfold_calls r seats s.thread ∙ rw miss.0 (calls_given seats i s (tail_once r seats once) h) ]

pub given_or : (seats : List SeatList) (t : ℕ) → IsGiven seats t ⊎ (((i : ℕ) (s : SeatList) → slice_get seats i ≡ Some s → Not (s.thread ≡ t)) × (calls_by seats t ≡ []))
unfolding calls_by
given_or [] t = inr ((λ i s h. absurd (cc)), refl)
given_or (r ∷ seats) t = elim (eqb_tells r.thread t) [
  | inl hit ↦ inl (0, r, refl, hit.1)
  | inr miss ↦ elim (given_or seats t) [
    | inl w ↦ inl (suc w.0, w.1, w.2, w.3)
    | inr w ↦ inr (others w.0 miss.1, unfold_calls r seats t ∙ rw miss.0 w.1)
  ]
]
  where
    others : ((i : ℕ) (s : SeatList) → slice_get seats i ≡ Some s → Not (s.thread ≡ t)) → Not (r.thread ≡ t) → (i : ℕ) (s : SeatList) → slice_get (r ∷ seats) i ≡ Some s → Not (s.thread ≡ t)
    others rest apart zero s h same = let e : r ≡ s = cc in apart (ap (λ (x : SeatList). x.thread) e ∙ same)
    others rest apart (suc i) s h same = rest i s h same

no_calls : (t : ℕ) (turns : List TurnShown) → ((m : ℕ) (a : TurnShown) → slice_get turns m ≡ Some a → Not (a.thread ≡ t)) → calls_of t turns ≡ []
no_calls t [] other = refl
no_calls t (a ∷ turns) other = elim (eqb_tells a.thread t) [ inl hit ↦ absurd (other zero a refl hit.1) | inr miss ↦ rw miss.0 (no_calls t turns (λ m x h. other (suc m) x h)) ]

pub each-thread : (seats : List SeatList) (turns : List TurnShown) → AreDistinct seats → ((k : ℕ) (a : TurnShown) → slice_get turns k ≡ Some a → IsGiven seats a.thread) → ((i : ℕ) (s : SeatList) → slice_get seats i ≡ Some s → calls_of s.thread turns ≡ s.calls) →
    (t : ℕ) → calls_of t turns ≡ calls_by seats t
each-thread seats turns once given each t = elim (given_or seats t) [
  | inl w ↦ rw (← w.3) (each w.0 w.1 w.2 ∙ sym (calls_given seats w.0 w.1 once w.2))
  | inr w ↦ no_calls t turns (λ m a h same. let seat = given m a h in w.0 seat.0 seat.1 seat.2 (seat.3 ∙ same)) ∙ sym w.1
]

-- What is left, seat by seat.

pub each_two-both : (A : Type 0) (R : A → A → Type 0) (xs ys : List A) → EachTwo A R xs → EachTwo A R ys → ((j k : ℕ) (x y : A) → slice_get xs j ≡ Some x → slice_get ys k ≡ Some y → R x y) → EachTwo A R (xs ++ ys)
each_two-both A R xs ys front behind across j k x y below hx hy = elim (get_both xs ys j x hx) [
  | inl p ↦ elim (get_both xs ys k y hy) [ inl q ↦ front j k x y below p q | inr q ↦ across j q.0 x y p q.2 ]
  | inr p ↦ elim (get_both xs ys k y hy) [
    | inl q ↦ absurd (let w = slice_get_within xs k y q in let e = p.1 in omega (arith, w, e, below))
    | inr q ↦ behind p.0 q.0 x y (let e = p.1 in let f = q.1 in omega (arith, e, f, below)) p.2 q.2
  ]
]

-- the turns at the end: of the seats at the first k places all calls are taken
pub record AreResting (seats : List SeatList) (places next : List ℕ) (k : ℕ) (front turns : List TurnShown) : Type 0 where
  pub rest : List TurnShown
  pub whole : turns ≡ front ++ rest
  pub bare : (m : ℕ) (a : TurnShown) → slice_get rest m ≡ Some a → a.call.ticket ≡ None
  pub whose : (m : ℕ) (a : TurnShown) → slice_get rest m ≡ Some a → (j : ℕ) × (p : ℕ) × (s : SeatList) × (j < k) × (slice_get places j ≡ Some p) × (slice_get seats p ≡ Some s) × (a.thread ≡ s.thread)
  pub rise : EachTwo TurnShown (λ a b. a.thread ≤ b.thread) rest
  pub done : (j i : ℕ) (s : SeatList) → j < k → slice_get places j ≡ Some i → slice_get seats i ≡ Some s → calls_of s.thread turns ≡ s.calls
  pub todo : (j i : ℕ) (s : SeatList) → k ≤ j → slice_get places j ≡ Some i → slice_get seats i ≡ Some s → calls_of s.thread turns ≡ take (slice_index next i) s.calls

-- no call that is left has a ticket
left_none : (s : SeatList) (order : List EntryAt) (from : ℕ) (front : List TurnShown) → ticketed_calls s.calls ≡ ticketed_entries (entries_by s.thread order) → ticketed_turns front ≡ entry_turns order → calls_of s.thread front ≡ take from s.calls → ticketed_calls (drop from s.calls) ≡ []
left_none s order from front agree told calls =
    let before : ticketed_calls (take from s.calls) ≡ ticketed_entries (entries_by s.thread order) = ap ticketed_calls (sym calls) ∙ own_told s.thread front order told in
    let split : ticketed_calls s.calls ≡ ticketed_calls (take from s.calls) ++ ticketed_calls (drop from s.calls) = ap ticketed_calls (sym (take-append-drop from s.calls)) ∙ asks_both (take from s.calls) (drop from s.calls) in
    append_cancel_left (ticketed_calls (take from s.calls)) (ticketed_calls (drop from s.calls)) [] (sym split ∙ (agree ∙ (sym before ∙ sym (append-nil (ticketed_calls (take from s.calls))))))

place_seat : (seats : List SeatList) (i j : ℕ) (r s : SeatList) → i ≡ j → slice_get seats i ≡ Some r → slice_get seats j ≡ Some s → r ≡ s
place_seat seats i j r s same hr hs = let both : Some r ≡ Some s = sym hr ∙ (ap (slice_get seats) same ∙ hs) in cc

place_is : (places : List ℕ) (j k p q : ℕ) → j ≡ k → slice_get places j ≡ Some p → slice_get places k ≡ Some q → p ≡ q
place_is places j k p q same hp hq = let both : Some p ≡ Some q = sym hp ∙ (ap (slice_get places) same ∙ hq) in cc

turns_bare : (t : ℕ) (calls : List Call) → ((k : ℕ) (c : Call) → slice_get calls k ≡ Some c → c.ticket ≡ None) → (m : ℕ) (a : TurnShown) → slice_get (turns_by t calls) m ≡ Some a → a.call.ticket ≡ None
turns_bare t [] none m a h = absurd (cc)
turns_bare t (c ∷ calls) none zero a h = let e : turn_of t c ≡ a = cc in ap (λ (x : TurnShown). x.call.ticket) (sym e) ∙ none zero c refl
turns_bare t (c ∷ calls) none (suc m) a h = turns_bare t calls (λ k x i. none (suc k) x i) m a h

pub resting-none : (seats : List SeatList) (order : List EntryAt) (places next : List ℕ) (front : List TurnShown) → AreTaken seats order next front → AreResting seats places next 0 front front
resting-none seats order places next front taken = record {
  rest = [];
  whole = sym (append-nil front);
  bare = λ m a h. absurd (cc);
  whose = λ m a h. absurd (cc);
  rise = each_two-none TurnShown (λ a b. a.thread ≤ b.thread);
  done = λ j i s below hp hs. absurd (omega arith);
  todo = λ j i s low hp hs. (taken.calls i s hs).0;
}

module _ (seats : List SeatList) (order : List EntryAt) (places next : List ℕ) (k p : ℕ) (s : SeatList) (front turns : List TurnShown) (agree : AllAgree seats order) (by : AreByNumber seats places) (taken : AreTaken seats order next front)
    (old : AreResting seats places next k front turns) (here : slice_get places k ≡ Some p) (seat : slice_get seats p ≡ Some s) where
  abbrev left : List Call
  left = drop (slice_index next p) s.calls

  left_asks : ticketed_calls left ≡ []
  left_asks = left_none s order (slice_index next p) front (agree p s seat) taken.told (taken.calls p s seat).0

  other_calls : (r : SeatList) → Not (s.thread ≡ r.thread) → calls_of r.thread (turns ++ turns_by s.thread left) ≡ calls_of r.thread turns
  other_calls r apart = calls_both r.thread turns (turns_by s.thread left) ∙ (ap (λ (xs : List Call). calls_of r.thread turns ++ xs) (calls_other s.thread r.thread left apart) ∙ append-nil (calls_of r.thread turns))

  own_calls : calls_of s.thread (turns ++ turns_by s.thread left) ≡ s.calls
  own_calls = calls_both s.thread turns (turns_by s.thread left)
      ∙ (ap (λ (xs : List Call). xs ++ calls_of s.thread (turns_by s.thread left)) (old.todo k p s (omega arith) here seat)
      ∙ (ap (λ (xs : List Call). take (slice_index next p) s.calls ++ xs) (calls_same s.thread left) ∙ take-append-drop (slice_index next p) s.calls))

  resting-left : AreResting seats places next (k + 1) front (turns ++ turns_by s.thread left)
  resting-left = record {
    rest = old.rest ++ turns_by s.thread left;
    whole = ap (λ (xs : List TurnShown). xs ++ turns_by s.thread left) old.whole ∙ append_assoc front old.rest (turns_by s.thread left);
    bare = λ m a h. elim (get_both old.rest (turns_by s.thread left) m a h) [ inl w ↦ old.bare m a w | inr w ↦ turns_bare s.thread left (all_bare left left_asks) w.0 a w.2 ];
    whose = λ m a h. elim (get_both old.rest (turns_by s.thread left) m a h) [
      | inl w ↦ (let o = old.whose m a w in (o.0, o.1, o.2, (let b = o.3 in omega (arith, b)), o.4, o.5, o.6))
      | inr w ↦ (k, p, s, (omega arith), here, seat, turns_whose s.thread left w.0 a w.2)
    ];
    rise = each_two-both TurnShown (λ a b. a.thread ≤ b.thread) old.rest (turns_by s.thread left) old.rise
        (λ i j a b below ha hb. let one = turns_whose s.thread left i a ha in let two = turns_whose s.thread left j b hb in omega (arith, one, two))
        (λ i j a b ha hb.
        let o = old.whose i a ha in
        let low = by.rise o.0 k o.1 p o.2 s o.3 o.4 here o.5 seat in
        let one = o.6 in
        let two = turns_whose s.thread left j b hb in
        omega (arith, low, one, two));
    done = λ j i r below hp hr. elim (cases_order j k) [
      | inl same ↦ (let whose : r ≡ s = place_seat seats i p r s (place_is places j k i p same hp here) hr seat in rw whose own_calls)
      | inr apart ↦ elim apart [
        | inl less ↦ (let low = by.rise j k i p r s less hp here hr seat in other_calls r (λ e. omega (arith, low, e)) ∙ old.done j i r less hp hr)
        | inr more ↦ absurd (omega arith)
      ]
    ];
    todo = λ j i r low hp hr. let up = by.rise k j p i s r (omega (arith, low)) here hp seat hr in other_calls r (λ e. omega (arith, up, e)) ∙ old.todo j i r (omega (arith, low)) hp hr;
  }

  -- the same, as the code reads it
  pub resting-step : (from : ℕ) (now : List TurnShown) → from ≡ slice_index next p → now ≡ turns ++ turns_by s.thread (next_turn (drop from s.calls)) → AreResting seats places next (k + 1) front now
  resting-step from now is grown = rw (grown, is, whole_turn left left_asks) resting-left

-- At the end.

bare_asked : (turns : List TurnShown) → ((m : ℕ) (a : TurnShown) → slice_get turns m ≡ Some a → a.call.ticket ≡ None) → ticketed_turns turns ≡ []
bare_asked [] none = refl
bare_asked (a ∷ turns) none = let e : is_some a.call.ticket ≡ false = rw (none zero a refl) refl in rw e (bare_asked turns (λ m x h. none (suc m) x h))

two_filter_if : (A : Type 0) (R : A → A → Type 0) (f : A → Bool) (x : A) (xs : List A) (b : Bool) → f x ≡ b → EachTwo A R (cond b (x ∷ filter f xs) (filter f xs)) → (EachTwo A R (filter f xs) → EachTwo A (λ y z. f y ≡ true → f z ≡ true → R y z) xs) →
    EachTwo A (λ y z. f y ≡ true → f z ≡ true → R y z) (x ∷ xs)
two_filter_if A R f x xs true is two rest = cons_two A (λ y z. f y ≡ true → f z ≡ true → R y z) x xs (λ k y h first second. let w = to_filter f xs y second k h in head_to A R x (filter f xs) two w.0 y w.1) (rest (tail_two A R x (filter f xs) two))
two_filter_if A R f x xs false is two rest = cons_two A (λ y z. f y ≡ true → f z ≡ true → R y z) x xs (λ k y h first second. absurd (let e = sym is ∙ first in cc)) (rest two)

-- a relation of those that pass a test
two_filter : (A : Type 0) (R : A → A → Type 0) (f : A → Bool) (xs : List A) → EachTwo A R (filter f xs) → EachTwo A (λ y z. f y ≡ true → f z ≡ true → R y z) xs
two_filter A R f [] all = each_two-none A (λ y z. f y ≡ true → f z ≡ true → R y z)
two_filter A R f (x ∷ xs) all = two_filter_if A R f x xs (f x) refl all (λ two. two_filter A R f xs two)

abbrev KeyRise : ℕ × Key → ℕ × Key → Type 0
KeyRise a b = (t u : ℕ) → a.1.0 ≡ Some t → b.1.0 ≡ Some u → t < u

some_is : (t u : ℕ) → Some t ≡ Some u → t ≡ u
some_is t u same = cc

told_rise : (order : List EntryAt) → OrderRises order → EachTwo (ℕ × Key) KeyRise (entry_turns order)
told_rise order up j k a b below ha hb t u ta ub =
    let x = mapped {B = ℕ × Key} (λ (d : EntryAt). (d.entry.thread, (Some d.entry.ticket, event_of d.entry.what))) order j a ha in
    let y = mapped {B = ℕ × Key} (λ (d : EntryAt). (d.entry.thread, (Some d.entry.ticket, event_of d.entry.what))) order k b hb in
    let low : x.0.entry.ticket ≡ t = some_is x.0.entry.ticket t (ap (λ (w : ℕ × Key). w.1.0) x.2 ∙ ta) in
    let high : y.0.entry.ticket ≡ u = some_is y.0.entry.ticket u (ap (λ (w : ℕ × Key). w.1.0) y.2 ∙ ub) in
    let less = up.each j k x.0 y.0 below x.1 y.1 in
    omega (arith, less, low, high)

tickets_rise : (turns : List TurnShown) (order : List EntryAt) → OrderRises order → ticketed_turns turns ≡ entry_turns order → EachTwo TurnShown (λ a b. IsSooner a.call b.call) turns
tickets_rise turns order up told j k a b below ha hb t u ta ub =
    two_filter TurnShown (λ x y. IsSooner x.call y.call) (λ (x : TurnShown). is_some x.call.ticket) turns
    (λ i m x y low hx hy v w vx wy. (rw (sym told) at (told_rise order up)) i m (x.thread, (x.call.ticket, x.call.event)) (y.thread, (y.call.ticket, y.call.event)) low
    (to_map {B = ℕ × Key} (λ (z : TurnShown). (z.thread, (z.call.ticket, z.call.event))) (filter (λ (z : TurnShown). is_some z.call.ticket) turns) i x hx)
    (to_map {B = ℕ × Key} (λ (z : TurnShown). (z.thread, (z.call.ticket, z.call.event))) (filter (λ (z : TurnShown). is_some z.call.ticket) turns) m y hy) v w vx wy)
    j k a b below ha hb (is_some_true a.call.ticket t ta) (is_some_true b.call.ticket u ub) t u ta ub

module _ (seats : List SeatList) (order : List EntryAt) (places next : List ℕ) (k : ℕ) (front turns : List TurnShown) (once : AreDistinct seats) (up : OrderRises order) (by : AreByNumber seats places) (taken : AreTaken seats order next front)
    (far : AreResting seats places next k front turns) (all : length places ≤ k) where
  pub rest-calls : (t : ℕ) → calls_of t turns ≡ calls_by seats t
  rest-calls = each-thread seats turns once
      (λ m a h. elim (get_both front far.rest m a (rw far.whole at h)) [ inl w ↦ taken.given m a w | inr w ↦ (let o = far.whose w.0 a w.2 in (o.1, o.2, o.5, sym o.6)) ])
      (λ i s h. let place = by.all i s h in far.done place.0 i s (let w = slice_get_within places place.0 i place.1 in omega (arith, w, all)) place.1 h)

  pub rest-told : ticketed_turns turns ≡ entry_turns order
  rest-told = rw far.whole (asked_both front far.rest ∙ (rw (bare_asked far.rest far.bare) (append-nil (ticketed_turns front)) ∙ taken.told))

  -- a position of the end has no ticket behind it
  none_later : (m t : ℕ) → length front ≤ m → Not (HasTicketLater (front ++ far.rest) m t)
  none_later m t low later = elim (get_both front far.rest later.0 later.1 later.3) [
    | inl w ↦ (let below = slice_get_within front later.0 later.1 w in let more = later.2 in omega (arith, below, more, low))
    | inr w ↦ (let none = far.bare w.0 later.1 w.2 in let some = later.5 in let gone = rw none at some in cc)
  ]

  later_front : (m : ℕ) (a : TurnShown) → slice_get front m ≡ Some a → a.call.ticket ≡ None → HasTicketLater (front ++ far.rest) m a.thread
  later_front m a h none = let e = taken.closed.each m a h none in (e.1.0, e.1.1, e.1.2, get_still front far.rest e.1.0 e.1.1 e.1.3, e.1.4, e.1.5)

  pub rest-order : IsInOrder turns
  rest-order = rw far.whole (record {
    rise = rw far.whole at (tickets_rise turns order up rest-told);
    before = λ m a h none later. elim (get_both front far.rest m a h) [
      | inl w ↦ (let e = taken.closed.each m a w none in (e.0.0, get_still front far.rest (m + 1) e.0.0 e.0.1, e.0.2))
      | inr w ↦ absurd (none_later m a.thread (let e = w.1 in omega (arith, e)) later)
    ];
    rest = λ i j a b below ha hb none not_later. elim (get_both front far.rest i a ha) [
      | inl w ↦ absurd (not_later (later_front i a w none))
      | inr w ↦ elim (get_both front far.rest j b hb) [
        | inl v ↦ absurd (let inside = slice_get_within front j b v in let e = w.1 in omega (arith, inside, e, below))
        | inr v ↦ (far.bare v.0 b v.2, far.rise w.0 v.0 a b (let e = w.1 in let f = v.1 in omega (arith, e, f, below)) w.2 v.2)
      ]
    ];
  })

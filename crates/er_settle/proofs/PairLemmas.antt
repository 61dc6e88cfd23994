-- Calls and entries have one another exactly where they agree in turn.
use Rattle.std.proofs.Common.{◌≡◌, ℕ, ◌+◌, ◌<◌, ◌≤◌, List, [], ◌∷◌, Bool, true, false, cond, length, map, refl, sym, ap, ◌∙◌, arith, zero, suc, inl, inr, ◌++◌, take}
use Rattle.std.specs.Prelude.{slice_get, Some, None, Option, filter, ◌==◌}
use Rattle.std.specs.Option.{is_some, option_map}
use Rattle.std.proofs.lemmas.Bool.{eqb-true, eq-eqb, cases_order}
use Rattle.std.proofs.lemmas.Option.{slice_get-map}
use Rattle.std.proofs.Common.{append-nil, add-one, set, length-set}
use Rattle.std.specs.Ordering.{nat_cmp}
use Rattle.std.specs.BTreeMap.{get, BTreeMap}
use Rattle.std.proofs.lemmas.Bool.Decides.{eqb_tells}
use Rattle.er_settle.proofs.ListLemmas.{get_push}
use Rattle.er_settle.proofs.NumberLemmas.{eq_or, some_is}
use Rattle.std.proofs.lemmas.List.{map-append, length-map}
use Rattle.std.proofs.lemmas.List.Elements.{filter-append}
use Rattle.std.proofs.lemmas.Option.{slice_get_within}
use Rattle.er_settle.proofs.ListLemmas.{take_next, all_taken}
use Rattle.er_event.specs.declared.steps.Event.{Event}
use Rattle.er_journal.specs.Entries.{Call, Entry, event_of}
use Rattle.er_settle.specs.Seats.{SeatList}
use Rattle.er_settle.specs.Faults.{place_of}
use Rattle.er_settle.specs.Faults.{EachTwo, AreDistinct, ListsRise, CallsRise, IsSooner, IsEntry, ArePaired, Not}
use Rattle.er_settle.specs.Inner.SeatChecks.{IsIndex}
use Rattle.er_settle.specs.Inner.JournalOrder.{EntryAt, OrderRises, entries_by, IsOrder}
use Rattle.er_settle.specs.Inner.EntryMatches.{ticketed_calls, ticketed_entries, AreInTurn, AreGrouped, AllGiven}
use Rattle.er_settle.proofs.OrderLemmas.{in_filter, filter_two, in_place, mapped, head_to, tail_two, get_below, past}

-- the element stands in the list
abbrev IsIn : (A : Type 0) → List A → A → Type 0
IsIn A xs x = (k : ℕ) × (slice_get xs k ≡ Some x)

to_filter_if : {A : Type 0} (f : A → Bool) (x : A) (xs : List A) (y : A) (b : Bool) → f x ≡ b → f y ≡ true → ((k : ℕ) → slice_get xs k ≡ Some y → IsIn A (filter f xs) y)
    → (k : ℕ) → slice_get (x ∷ xs) k ≡ Some y → IsIn A (cond b (x ∷ filter f xs) (filter f xs)) y
to_filter_if f x xs y true is pass rest zero h = (zero, h)
to_filter_if f x xs y true is pass rest (suc k) h = let r = rest k h in (suc r.0, r.1)
to_filter_if f x xs y false is pass rest zero h = let same : x ≡ y = cc in absurd (let e = rw same at is in cc)
to_filter_if f x xs y false is pass rest (suc k) h = rest k h

pub to_filter : {A : Type 0} (f : A → Bool) (xs : List A) (y : A) → f y ≡ true → (k : ℕ) → slice_get xs k ≡ Some y → IsIn A (filter f xs) y
to_filter f [] y pass k h = absurd (cc)
to_filter f (x ∷ xs) y pass k h = to_filter_if f x xs y (f x) refl pass (λ j i. to_filter f xs y pass j i) k h

pub to_map : {A B : Type 0} (f : A → B) (xs : List A) (k : ℕ) (x : A) → slice_get xs k ≡ Some x → slice_get (map f xs) k ≡ Some (f x)
to_map f xs k x h = slice_get-map f xs k ∙ ap (option_map f) h

-- two lists in one order with the same elements are one
module _ (A : Type 0) (R : A → A → Type 0) (apart : (x y : A) → R x y → Not (R y x)) where
  heads : (x y : A) (xs ys : List A) → EachTwo A R (x ∷ xs) → EachTwo A R (y ∷ ys) → IsIn A (y ∷ ys) x → IsIn A (x ∷ xs) y → x ≡ y
  heads x y xs ys up high (zero, h) there = sym (let e = h in cc)
  heads x y xs ys up high (suc k, h) (zero, i) = let e = i in cc
  heads x y xs ys up high (suc k, h) (suc j, i) = absurd (apart y x (head_to A R y ys high k x h) (head_to A R x xs up j y i))

  tails : (x y : A) (xs ys : List A) → x ≡ y → EachTwo A R (x ∷ xs) → ((z : A) → IsIn A (x ∷ xs) z → IsIn A (y ∷ ys) z) → (z : A) → IsIn A xs z → IsIn A ys z
  tails x y xs ys same up sub z there = later (sub z (suc there.0, there.1))
    where
      later : IsIn A (y ∷ ys) z → IsIn A ys z
      later (zero, h) = absurd (let e : y ≡ z = cc in let r = head_to A R x xs up there.0 z there.1 in let q : R x x = rw (same ∙ e) (rw (same ∙ e) at r) in apart x x q q)
      later (suc k, h) = (k, h)

  same_turn : (xs ys : List A) → EachTwo A R xs → EachTwo A R ys → ((z : A) → IsIn A xs z → IsIn A ys z) → ((z : A) → IsIn A ys z → IsIn A xs z) → xs ≡ ys
  same_turn [] [] up high sub sup = refl
  same_turn [] (y ∷ ys) up high sub sup = absurd (let h = (sup y (zero, refl)).1 in cc)
  same_turn (x ∷ xs) [] up high sub sup = absurd (let h = (sub x (zero, refl)).1 in cc)
  same_turn (x ∷ xs) (y ∷ ys) up high sub sup =
      let same : x ≡ y = heads x y xs ys up high (sub x (zero, refl)) (sup y (zero, refl)) in
      let rest : xs ≡ ys = same_turn xs ys (tail_two A R x xs up) (tail_two A R y ys high) (tails x y xs ys same up sub) (tails y x ys xs (sym same) high sup) in
      cc

-- the first has a ticket, the second a greater one
abbrev AreRising : (Option ℕ × Event) → (Option ℕ × Event) → Type 0
AreRising a b = (t : ℕ) × (u : ℕ) × (a.0 ≡ Some t) × (b.0 ≡ Some u) × (t < u)

not_both : (a b : Option ℕ × Event) → AreRising a b → Not (AreRising b a)
not_both a b up down =
    let one : Some up.0 ≡ Some down.1 = sym up.2 ∙ down.3 in
    let two : Some up.1 ≡ Some down.0 = sym up.3 ∙ down.2 in
    let low : up.0 ≡ down.1 = cc in
    let high : up.1 ≡ down.0 = cc in
    omega (arith, low, high, up.4, down.4)

pub some_ticket : (o : Option ℕ) → is_some o ≡ true → (t : ℕ) × (o ≡ Some t)
some_ticket None h = absurd (cc)
some_ticket (Some t) h = (t, refl)

asks_rise : (calls : List Call) → CallsRise calls → EachTwo (Option ℕ × Event) AreRising (ticketed_calls calls)
asks_rise calls up j k a b below ha hb =
    let f = λ (c : Call). is_some c.ticket in
    let x = mapped {B = Option ℕ × Event} (λ (c : Call). (c.ticket, c.event)) (filter f calls) j a ha in
    let y = mapped {B = Option ℕ × Event} (λ (c : Call). (c.ticket, c.event)) (filter f calls) k b hb in
    let low = in_filter f calls j x.0 x.1 in
    let high = in_filter f calls k y.0 y.1 in
    let t = some_ticket x.0.ticket low.2 in
    let u = some_ticket y.0.ticket high.2 in
    let less = filter_two Call IsSooner f calls up.each j k x.0 y.0 below x.1 y.1 t.0 u.0 t.1 u.1 in
    (t.0, u.0, ap (λ (w : Option ℕ × Event). w.0) (sym x.2) ∙ t.1, ap (λ (w : Option ℕ × Event). w.0) (sym y.2) ∙ u.1, less)

tells_rise : (t : ℕ) (order : List EntryAt) → OrderRises order → EachTwo (Option ℕ × Event) AreRising (ticketed_entries (entries_by t order))
tells_rise t order up j k a b below ha hb =
    let f = λ (d : EntryAt). d.entry.thread == t in
    let x = mapped {B = Option ℕ × Event} (λ (d : EntryAt). (Some d.entry.ticket, event_of d.entry.what)) (filter f order) j a ha in
    let y = mapped {B = Option ℕ × Event} (λ (d : EntryAt). (Some d.entry.ticket, event_of d.entry.what)) (filter f order) k b hb in
    let less = filter_two EntryAt (λ d e. d.entry.ticket < e.entry.ticket) f order up.each j k x.0 y.0 below x.1 y.1 in
    (x.0.entry.ticket, y.0.entry.ticket, ap (λ (w : Option ℕ × Event). w.0) (sym x.2), ap (λ (w : Option ℕ × Event). w.0) (sym y.2), less)

-- where an entry of the order stands in its journal
pub in_journal : (journals : List (List Entry)) (order : List EntryAt) (m : ℕ) (d : EntryAt) → IsOrder journals order → slice_get order m ≡ Some d → (k : ℕ) × IsEntry journals d.place k d.entry
in_journal journals order m d is h =
    let s = get_below journals d.place (is.inside m d h) in
    let one = to_filter (λ (x : EntryAt). x.place == d.place) order d (eq-eqb d.place d.place refl) m h in
    let two = to_map (λ (x : EntryAt). x.entry) (filter (λ (x : EntryAt). x.place == d.place) order) one.0 d one.1 in
    (one.0, (s.0, s.1, rw (← is.entries d.place s.0 s.1) two))

pub once_same : (seats : List SeatList) (i j : ℕ) (r s : SeatList) → AreDistinct seats → slice_get seats i ≡ Some r → slice_get seats j ≡ Some s → r.thread ≡ s.thread → r ≡ s
once_same seats i j r s once hr hs same = elim (cases_order i j) [
  | inl at ↦ (let both : Some r ≡ Some s = sym hr ∙ (ap (slice_get seats) at ∙ hs) in cc)
  | inr apart ↦ elim apart [ inl less ↦ absurd (once.apart i j r s less hr hs same) | inr more ↦ absurd (once.apart j i s r more hs hr (sym same)) ]
]

key_is : (t u : Option ℕ) (e f : Event) (a : Option ℕ × Event) (xs : List (Option ℕ × Event)) (k : ℕ) → slice_get xs k ≡ Some (t, e) → t ≡ u → e ≡ f → (u, f) ≡ a → slice_get xs k ≡ Some a
key_is t u e f a xs k h ticket event is = h ∙ ((λ i. Some (ticket i, event i)) ∙ ap (λ (w : Option ℕ × Event). Some w) is)

pub is_some_true : (o : Option ℕ) (t : ℕ) → o ≡ Some t → is_some o ≡ true
is_some_true o t h = rw h refl

module _ (seats : List SeatList) (journals : List (List Entry)) (order : List EntryAt) (is : IsOrder journals order) where
  -- where they agree in turn, they have one another
  pub turn-paired : AreInTurn seats journals order → ArePaired seats journals
  turn-paired turn = record {
    calls = λ p k e here.
        let a = in_place journals order p k e is here in
        let g = turn.given a.0 a.1 a.2 in
        let thread : a.1.entry.thread ≡ g.1.thread = sym g.3 in
        let one = to_filter (λ (d : EntryAt). d.entry.thread == g.1.thread) order a.1 (eq-eqb a.1.entry.thread g.1.thread thread) a.0 a.2 in
        let two = to_map {B = Option ℕ × Event} (λ (d : EntryAt). (Some d.entry.ticket, event_of d.entry.what)) (entries_by g.1.thread order) one.0 a.1 one.1 in
        let three = rw (← turn.turn g.0 g.1 g.2) at two in
        let x = mapped {B = Option ℕ × Event} (λ (c : Call). (c.ticket, c.event)) (filter (λ (c : Call). is_some c.ticket) g.1.calls) one.0 (Some a.1.entry.ticket, event_of a.1.entry.what) three in
        let y = in_filter (λ (c : Call). is_some c.ticket) g.1.calls one.0 x.0 x.1 in (
          g.0,
          g.1,
          y.0,
          x.0,
          (g.2, y.1),
          record {
            ticket = ap (λ (w : Option ℕ × Event). w.0) x.2 ∙ ap (λ (z : Entry). Some z.ticket) a.4;
            thread = g.3 ∙ ap (λ (z : Entry). z.thread) a.4;
            event = ap (λ (w : Option ℕ × Event). w.1) x.2 ∙ ap (λ (z : Entry). event_of z.what) a.4;
            place = ap (λ (z : Entry). place_of (length journals) z.what) (sym a.4) ∙ (turn.placed a.0 a.1 a.2 ∙ a.3);
          },
        );
    entries = λ i s j c here some.
        let one = to_filter (λ (x : Call). is_some x.ticket) s.calls c some j here.1 in
        let two = to_map {B = Option ℕ × Event} (λ (x : Call). (x.ticket, x.event)) (filter (λ (x : Call). is_some x.ticket) s.calls) one.0 c one.1 in
        let three = rw (turn.turn i s here.0) at two in
        let x = mapped {B = Option ℕ × Event} (λ (d : EntryAt). (Some d.entry.ticket, event_of d.entry.what)) (entries_by s.thread order) one.0 (c.ticket, c.event) three in
        let y = in_filter (λ (d : EntryAt). d.entry.thread == s.thread) order one.0 x.0 x.1 in
        let z = in_journal journals order y.0 x.0 is y.1 in (
          x.0.place,
          z.0,
          x.0.entry,
          z.1,
          record {
            ticket = ap (λ (w : Option ℕ × Event). w.0) (sym x.2);
            thread = sym (eqb-true x.0.entry.thread s.thread y.2);
            event = ap (λ (w : Option ℕ × Event). w.1) (sym x.2);
            place = turn.placed y.0 x.0 y.1;
          },
        );
  }

  -- where they have one another, they agree in turn
  pub paired-turn : AreDistinct seats → ListsRise seats → ArePaired seats journals → AreInTurn seats journals order
  paired-turn once lists paired = record {
    given = λ m d h. let z = in_journal journals order m d is h in let c = paired.calls d.place z.0 d.entry z.1 in (c.0, c.1, c.4.0, c.5.thread);
    placed = λ m d h. let z = in_journal journals order m d is h in let c = paired.calls d.place z.0 d.entry z.1 in c.5.place;
    turn = λ i s h. same_turn (Option ℕ × Event) AreRising not_both (ticketed_calls s.calls) (ticketed_entries (entries_by s.thread order)) (asks_rise s.calls (lists i s h)) (tells_rise s.thread order is.rise)
        (λ a here. told i s h a here) (λ a here. asked i s h a here);
  }
    where
      told : (i : ℕ) (s : SeatList) → slice_get seats i ≡ Some s → (a : Option ℕ × Event) → IsIn (Option ℕ × Event) (ticketed_calls s.calls) a → IsIn (Option ℕ × Event) (ticketed_entries (entries_by s.thread order)) a
      told i s h a here =
          let x = mapped {B = Option ℕ × Event} (λ (c : Call). (c.ticket, c.event)) (filter (λ (c : Call). is_some c.ticket) s.calls) here.0 a here.1 in
          let y = in_filter (λ (c : Call). is_some c.ticket) s.calls here.0 x.0 x.1 in
          let e = paired.entries i s y.0 x.0 (h, y.1) y.2 in
          let m = in_place journals order e.0 e.1 e.2 is e.3 in
          let thread : m.1.entry.thread ≡ s.thread = ap (λ (z : Entry). z.thread) m.4 ∙ sym e.4.thread in
          let one = to_filter (λ (d : EntryAt). d.entry.thread == s.thread) order m.1 (eq-eqb m.1.entry.thread s.thread thread) m.0 m.2 in
          let two = to_map {B = Option ℕ × Event} (λ (d : EntryAt). (Some d.entry.ticket, event_of d.entry.what)) (entries_by s.thread order) one.0 m.1 one.1 in
          let ticket : Some m.1.entry.ticket ≡ x.0.ticket = ap (λ (z : Entry). Some z.ticket) m.4 ∙ sym e.4.ticket in
          let event : event_of m.1.entry.what ≡ x.0.event = ap (λ (z : Entry). event_of z.what) m.4 ∙ sym e.4.event in
          (one.0, key_is (Some m.1.entry.ticket) x.0.ticket (event_of m.1.entry.what) x.0.event a (ticketed_entries (entries_by s.thread order)) one.0 two ticket event x.2)

      asked : (i : ℕ) (s : SeatList) → slice_get seats i ≡ Some s → (a : Option ℕ × Event) → IsIn (Option ℕ × Event) (ticketed_entries (entries_by s.thread order)) a → IsIn (Option ℕ × Event) (ticketed_calls s.calls) a
      asked i s h a here =
          let x = mapped {B = Option ℕ × Event} (λ (d : EntryAt). (Some d.entry.ticket, event_of d.entry.what)) (entries_by s.thread order) here.0 a here.1 in
          let y = in_filter (λ (d : EntryAt). d.entry.thread == s.thread) order here.0 x.0 x.1 in
          let z = in_journal journals order y.0 x.0 is y.1 in
          let e = paired.calls x.0.place z.0 x.0.entry z.1 in
          let thread : e.1.thread ≡ s.thread = e.5.thread ∙ eqb-true x.0.entry.thread s.thread y.2 in
          let same : e.1 ≡ s = once_same seats e.0 i e.1 s once e.4.0 h thread in
          let call : slice_get s.calls e.2 ≡ Some e.3 = ap (λ (w : SeatList). slice_get w.calls e.2) (sym same) ∙ e.4.1 in
          let one = to_filter (λ (c : Call). is_some c.ticket) s.calls e.3 (is_some_true e.3.ticket x.0.entry.ticket e.5.ticket) e.2 call in
          let two = to_map {B = Option ℕ × Event} (λ (c : Call). (c.ticket, c.event)) (filter (λ (c : Call). is_some c.ticket) s.calls) one.0 e.3 one.1 in
          (one.0, key_is e.3.ticket (Some x.0.entry.ticket) e.3.event (event_of x.0.entry.what) a (ticketed_calls s.calls) one.0 two e.5.ticket e.5.event x.2)

-- One seat's calls against the entries of its thread.

asks_push : (calls : List Call) (c : Call) → ticketed_calls (calls ++ c ∷ []) ≡ ticketed_calls calls ++ ticketed_calls (c ∷ [])
asks_push calls c = ap (map {B = Option ℕ × Event} (λ (x : Call). (x.ticket, x.event))) (filter-append (λ (x : Call). is_some x.ticket) calls (c ∷ []))
    ∙ map-append {B = Option ℕ × Event} (λ (x : Call). (x.ticket, x.event)) (filter (λ (x : Call). is_some x.ticket) calls) (filter (λ (x : Call). is_some x.ticket) (c ∷ []))

asks_some : (c : Call) (t : ℕ) → c.ticket ≡ Some t → ticketed_calls (c ∷ []) ≡ (c.ticket, c.event) ∷ []
asks_some c t h = rw (is_some_true c.ticket t h) refl

asks_none : (c : Call) → c.ticket ≡ None → ticketed_calls (c ∷ []) ≡ []
asks_none c h = let e : is_some c.ticket ≡ false = rw h refl in rw e refl

-- the calls with tickets among one more call
pub ticketed_calls-skip : (calls : List Call) (k : ℕ) (c : Call) → slice_get calls k ≡ Some c → c.ticket ≡ None → ticketed_calls (take (k + 1) calls) ≡ ticketed_calls (take k calls)
ticketed_calls-skip calls k c here none =
    ap ticketed_calls (take_next calls k c here) ∙ (asks_push (take k calls) c ∙ (ap (λ (xs : List (Option ℕ × Event)). ticketed_calls (take k calls) ++ xs) (asks_none c none) ∙ append-nil (ticketed_calls (take k calls))))

pub ticketed_calls-more : (calls : List Call) (k t : ℕ) (c : Call) → slice_get calls k ≡ Some c → c.ticket ≡ Some t → ticketed_calls (take (k + 1) calls) ≡ ticketed_calls (take k calls) ++ (c.ticket, c.event) ∷ []
ticketed_calls-more calls k t c here has =
    ap ticketed_calls (take_next calls k c here) ∙ (asks_push (take k calls) c ∙ ap (λ (xs : List (Option ℕ × Event)). ticketed_calls (take k calls) ++ xs) (asks_some c t has))

-- a call without a ticket
pub agree-skip : (calls : List Call) (group : List EntryAt) (k at : ℕ) (c : Call) → slice_get calls k ≡ Some c → c.ticket ≡ None → ticketed_calls (take k calls) ≡ take at (ticketed_entries group) → ticketed_calls (take (k + 1) calls) ≡ take at (ticketed_entries group)
agree-skip calls group k at c here none old =
    ticketed_calls-skip calls k c here none ∙ old

-- a call that agrees with the next entry
pub agree-more : (calls : List Call) (group : List EntryAt) (k at t : ℕ) (c : Call) (e : EntryAt) → slice_get calls k ≡ Some c → c.ticket ≡ Some t → ticketed_calls (take k calls) ≡ take at (ticketed_entries group) → slice_get group at ≡ Some e
    → t ≡ e.entry.ticket → c.event ≡ event_of e.entry.what → ticketed_calls (take (k + 1) calls) ≡ take (at + 1) (ticketed_entries group)
agree-more calls group k at t c e here has old next ticket event =
    let told : slice_get (ticketed_entries group) at ≡ Some (Some e.entry.ticket, event_of e.entry.what) = to_map {B = Option ℕ × Event} (λ (x : EntryAt). (Some x.entry.ticket, event_of x.entry.what)) group at e next in
    let key : slice_get (ticketed_entries group) at ≡ Some (c.ticket, c.event) = told ∙ sym (λ i. Some ((has ∙ ap (λ (n : ℕ). Some n) ticket) i, event i)) in
    ticketed_calls-more calls k t c here has
    ∙ (ap (λ (xs : List (Option ℕ × Event)). xs ++ (c.ticket, c.event) ∷ []) old ∙ sym (take_next (ticketed_entries group) at (c.ticket, c.event) key))

asks_at_if : (x : Call) (calls : List Call) (n : ℕ) (a : Option ℕ × Event) (b : Bool) → is_some x.ticket ≡ b → slice_get (ticketed_calls calls) n ≡ Some a
    → slice_get (map {B = Option ℕ × Event} (λ (c : Call). (c.ticket, c.event)) (cond b (x ∷ filter (λ (c : Call). is_some c.ticket) calls) (filter (λ (c : Call). is_some c.ticket) calls))) (cond b (n + 1) n) ≡ Some a
asks_at_if x calls n a true is rest = rw add-one rest
asks_at_if x calls n a false is rest = rest

asks_count_if : (x : Call) (front : List Call) (b : Bool) → is_some x.ticket ≡ b → length (ticketed_calls (x ∷ front)) ≡ cond b (length (ticketed_calls front) + 1) (length (ticketed_calls front))
asks_count_if x front true is = rw is (omega arith)
asks_count_if x front false is = rw is refl

-- where a call with a ticket stands among those that have one
pub asks_at : (calls : List Call) (k t : ℕ) (c : Call) → slice_get calls k ≡ Some c → c.ticket ≡ Some t → slice_get (ticketed_calls calls) (length (ticketed_calls (take k calls))) ≡ Some (c.ticket, c.event)
asks_at [] k t c h has = absurd (cc)
asks_at (x ∷ calls) zero t c h has =
    let same : x ≡ c = cc in
    rw (same, is_some_true c.ticket t has) refl
asks_at (x ∷ calls) (suc k) t c h has =
    rw (asks_count_if x (take k calls) (is_some x.ticket) refl) (asks_at_if x calls (length (ticketed_calls (take k calls))) (c.ticket, c.event) (is_some x.ticket) refl (asks_at calls k t c h has))

length_take : {A : Type 0} (xs : List A) (k : ℕ) → k ≤ length xs → length (take k xs) ≡ k
length_take [] zero h = refl
length_take [] (suc k) h = absurd (omega arith)
length_take (x ∷ xs) zero h = refl
length_take (x ∷ xs) (suc k) h = let e = length_take xs k (omega arith) in omega (arith, e)

pub tells_length : (group : List EntryAt) → length (ticketed_entries group) ≡ length group
tells_length group = length-map {B = Option ℕ × Event} group (λ (x : EntryAt). (Some x.entry.ticket, event_of x.entry.what))

some_inside : (x y : Option ℕ × Event) → Some x ≡ Some y → x ≡ y
some_inside x y same = cc

pair_parts : (t u : ℕ) (x y : Option ℕ × Event) → x.0 ≡ Some t → y.0 ≡ Some u → Some x ≡ Some y → (t ≡ u) × (x.1 ≡ y.1)
pair_parts t u x y is that same =
    let both : x ≡ y = some_inside x y same in
    let numbers : Some t ≡ Some u = sym is ∙ (ap (λ (w : Option ℕ × Event). w.0) both ∙ that) in
    ((cc), ap (λ (w : Option ℕ × Event). w.1) both)

-- where they agree, the next entry is the next call's
module _ (calls : List Call) (group : List EntryAt) (k at t : ℕ) (c : Call) (here : slice_get calls k ≡ Some c) (has : c.ticket ≡ Some t) (old : ticketed_calls (take k calls) ≡ take at (ticketed_entries group)) (within : at ≤ length group) where
  next_told : ticketed_calls calls ≡ ticketed_entries group → slice_get (ticketed_entries group) at ≡ Some (c.ticket, c.event)
  next_told same =
      let count : length (ticketed_calls (take k calls)) ≡ at = ap length old ∙ length_take (ticketed_entries group) at (rw (tells_length group) within) in
      ap (λ (xs : List (Option ℕ × Event)). slice_get xs at) (sym same) ∙ (ap (slice_get (ticketed_calls calls)) (sym count) ∙ asks_at calls k t c here has)

  pub agree-past : length group ≤ at → Not (ticketed_calls calls ≡ ticketed_entries group)
  agree-past all same =
      let none = past (ticketed_entries group) at (rw (tells_length group) all) in
      let some = next_told same in
      cc

  pub agree-not : (e : EntryAt) → slice_get group at ≡ Some e → Not ((t ≡ e.entry.ticket) × (c.event ≡ event_of e.entry.what)) → Not (ticketed_calls calls ≡ ticketed_entries group)
  agree-not e next other same =
      let told : slice_get (ticketed_entries group) at ≡ Some (Some e.entry.ticket, event_of e.entry.what) = to_map {B = Option ℕ × Event} (λ (x : EntryAt). (Some x.entry.ticket, event_of x.entry.what)) group at e next in
      other (pair_parts t e.entry.ticket (c.ticket, c.event) (Some e.entry.ticket, event_of e.entry.what) has refl (sym (next_told same) ∙ told))

-- all calls are gone through
pub agree-end : (calls : List Call) (group : List EntryAt) (k at : ℕ) → length calls ≤ k → ticketed_calls (take k calls) ≡ take at (ticketed_entries group) → at ≤ length group → (length group ≡ at → ticketed_calls calls ≡ ticketed_entries group) × (ticketed_calls calls ≡ ticketed_entries group → length group ≡ at)
agree-end calls group k at all old within =
    let whole : ticketed_calls calls ≡ take at (ticketed_entries group) = ap ticketed_calls (sym (all_taken calls k all)) ∙ old in (
      λ is. whole ∙ all_taken (ticketed_entries group) at (rw (tells_length group) (omega (arith, is))),
      λ same. let a : length (ticketed_entries group) ≡ at = ap length (sym same ∙ whole) ∙ length_take (ticketed_entries group) at (rw (tells_length group) within) in sym (tells_length group) ∙ a,
    )

-- Dealing the entries out.

get_set_same : {A : Type 0} (xs : List A) (i : ℕ) (y : A) → i < length xs → slice_get (set xs i y) i ≡ Some y
get_set_same [] i y below = absurd (omega arith)
get_set_same (x ∷ xs) zero y below = refl
get_set_same (x ∷ xs) (suc i) y below = get_set_same xs i y (omega arith)

get_set_other : {A : Type 0} (xs : List A) (i j : ℕ) (y : A) → Not (j ≡ i) → slice_get (set xs i y) j ≡ slice_get xs j
get_set_other [] i j y apart = refl
get_set_other (x ∷ xs) zero zero y apart = absurd (apart refl)
get_set_other (x ∷ xs) zero (suc j) y apart = refl
get_set_other (x ∷ xs) (suc i) zero y apart = refl
get_set_other (x ∷ xs) (suc i) (suc j) y apart = get_set_other xs i j y (λ e. apart (ap suc e))

pub once_at : (seats : List SeatList) (i j : ℕ) (r s : SeatList) → AreDistinct seats → slice_get seats i ≡ Some r → slice_get seats j ≡ Some s → r.thread ≡ s.thread → i ≡ j
once_at seats i j r s once hr hs same = elim (cases_order i j) [
  | inl at ↦ at
  | inr apart ↦ elim apart [ inl less ↦ absurd (once.apart i j r s less hr hs same) | inr more ↦ absurd (once.apart j i s r more hs hr (sym same)) ]
]

by_push : (t : ℕ) (order : List EntryAt) (d : EntryAt) → entries_by t (order ++ d ∷ []) ≡ entries_by t order ++ entries_by t (d ∷ [])
by_push t order d = filter-append (λ (x : EntryAt). x.entry.thread == t) order (d ∷ [])

by_yes : (t : ℕ) (d : EntryAt) → d.entry.thread ≡ t → entries_by t (d ∷ []) ≡ d ∷ []
by_yes t d same = let e = eq-eqb d.entry.thread t same in rw e refl

by_no : (t : ℕ) (d : EntryAt) → Not (d.entry.thread ≡ t) → entries_by t (d ∷ []) ≡ []
by_no t d apart = elim (eqb_tells d.entry.thread t) [ inl hit ↦ absurd (apart hit.1) | inr miss ↦ rw miss.0 refl ]

pub deal-more : (seats : List SeatList) (order : List EntryAt) (k i : ℕ) (d : EntryAt) (groups later : List (List EntryAt)) (group now : List EntryAt) (s : SeatList) → AreDistinct seats → AreGrouped seats (take k order) groups → AllGiven seats (take k order)
    → slice_get order k ≡ Some d → slice_get seats i ≡ Some s → s.thread ≡ d.entry.thread → slice_get groups i ≡ Some group → now ≡ group ++ d ∷ [] → later ≡ set groups i now → AreGrouped seats (take (k + 1) order) later × AllGiven seats (take (k + 1) order)
deal-more seats order k i d groups later group now s once old given here seat thread had grown is = rw (take_next order k d here, is) (
  record {
    count = length-set groups i now ∙ old.count;
    each = λ j r h. elim (eq_or j i) [
      | inl same ↦ (
          let one : Some r ≡ Some s = sym h ∙ (ap (slice_get seats) same ∙ seat) in
          let whose : r ≡ s = cc in
          let was : Some group ≡ Some (entries_by r.thread (take k order)) = sym had ∙ (ap (slice_get groups) (sym same) ∙ old.each j r h) in
          let own : group ≡ entries_by r.thread (take k order) = cc in
          let mine : d.entry.thread ≡ r.thread = sym thread ∙ ap (λ (x : SeatList). x.thread) (sym whose) in
          rw same (get_set_same groups i now (slice_get_within groups i group had)) ∙ ap (λ (x : List EntryAt). Some x) (grown ∙ (ap (λ (x : List EntryAt). x ++ d ∷ []) own ∙ (ap (λ (x : List EntryAt). entries_by r.thread (take k order) ++ x) (sym (by_yes r.thread d mine)) ∙ sym (by_push r.thread (take k order) d)))))
      | inr apart ↦ (
          let other : Not (d.entry.thread ≡ r.thread) = λ e. apart (once_at seats j i r s once h seat (sym e ∙ sym thread)) in
          get_set_other groups i j now apart ∙ (old.each j r h ∙ ap (λ (x : List EntryAt). Some x) (sym (by_push r.thread (take k order) d ∙ (ap (λ (x : List EntryAt). entries_by r.thread (take k order) ++ x) (by_no r.thread d other) ∙ append-nil (entries_by r.thread (take k order)))))))
    ];
  },
  λ m x h. elim (get_push (take k order) d x m h) [ inl p ↦ given m x p | inr p ↦ (i, s, seat, thread ∙ ap (λ (y : EntryAt). y.entry.thread) (sym p.1)) ],
)

pub deal-not : (seats : List SeatList) (order : List EntryAt) (index : BTreeMap ℕ ℕ) (k : ℕ) (d : EntryAt) → IsIndex seats index → slice_get order k ≡ Some d → get nat_cmp index d.entry.thread ≡ None → Not (AllGiven seats order)
deal-not seats order index k d at here none given =
    let seat = given k d here in
    some_is (get nat_cmp index d.entry.thread) (rw (← seat.3) (at.found seat.0 seat.1 seat.2)) (rw none refl)

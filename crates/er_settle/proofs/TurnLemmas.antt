-- Each entry takes its seat's calls up to the one that it tells of, so the turns have the tickets of the entries.
use Rattle.std.proofs.Common.{◌≡◌, ℕ, ◌+◌, ◌<◌, ◌≤◌, List, [], ◌∷◌, ◌++◌, Bool, true, false, cond, length, append_assoc, append-nil, length-set, replicate, set, get_or, map, take, drop, refl, sym, ap, ◌∙◌, arith, zero, suc, inl, inr, ◌⊎◌}
use Rattle.std.specs.Prelude.{slice_get, slice_index, Some, None, Option, IsSome, filter, ◌==◌}
use Rattle.std.specs.Option.{is_some}
use Rattle.std.specs.Ordering.{nat_cmp}
use Rattle.std.specs.BTreeMap.{get, BTreeMap}
use Rattle.std.proofs.lemmas.Bool.{eq-eqb}
use Rattle.std.proofs.lemmas.Bool.Decides.{eqb_tells}
use Rattle.std.proofs.lemmas.List.{map-append, length-drop, drop_more, take-append-drop, append_cancel_left}
use Rattle.std.proofs.lemmas.List.Elements.{filter-append}
use Rattle.std.proofs.Math.Seq.{take-add}
use Rattle.std.proofs.Math.ListN.{drop_of_length-le}
use Rattle.std.proofs.lemmas.Option.{slice_get_within, slice_get_read, get_or_from_slice_get}
use Rattle.er_event.specs.declared.steps.Event.{Event}
use Rattle.er_journal.specs.Entries.{Call, event_of}
use Rattle.er_settle.specs.Seats.{SeatList}
use Rattle.er_settle.specs.Faults.{AreDistinct, Not}
use Rattle.er_settle.specs.Inner.SeatChecks.{IsIndex}
use Rattle.er_settle.specs.Inner.JournalOrder.{EntryAt, entries_by}
use Rattle.er_settle.specs.Inner.EntryMatches.{ticketed_calls, ticketed_entries, AllAgree}
use Rattle.er_settle.specs.Inner.CallOrder.{turns_by, next_turn, ticketed_turns, entry_turns, IsClosed, AreTaken}
use Rattle.er_settle.specs.Runs.{TurnShown, turn_of, calls_of, HasTicketLater, HasNext}
use Rattle.er_settle.proofs.ListLemmas.{take_next, index_same, index_other, number_read}
use Rattle.er_settle.proofs.NumberLemmas.{eq_or}
use Rattle.er_event.proofs.Lists.{get_still}
use Rattle.er_settle.proofs.PairLemmas.{once_at}

abbrev Key : Type 0
Key = Option ℕ × Event

-- Places of a list that two make.

pub got_behind : {A : Type 0} (xs ys : List A) (k : ℕ) (x : A) → slice_get ys k ≡ Some x → slice_get (xs ++ ys) (length xs + k) ≡ Some x
got_behind [] ys k x h = let e : 0 + k ≡ k = omega arith in rw e h
got_behind (y ∷ xs) ys k x h = let e : suc (length xs) + k ≡ suc (length xs + k) = omega arith in rw e (got_behind xs ys k x h)

pub get_both : {A : Type 0} (xs ys : List A) (k : ℕ) (x : A) → slice_get (xs ++ ys) k ≡ Some x → (slice_get xs k ≡ Some x) ⊎ ((m : ℕ) × (k ≡ length xs + m) × (slice_get ys m ≡ Some x))
get_both [] ys k x h = inr (k, (omega arith), h)
get_both (y ∷ xs) ys zero x h = inl h
get_both (y ∷ xs) ys (suc k) x h = elim (get_both xs ys k x h) [ inl p ↦ inl p | inr q ↦ inr (q.0, (omega (arith, q.1)), q.2) ]

pub drop_next : {A : Type 0} (xs : List A) (k : ℕ) (x : A) → slice_get xs k ≡ Some x → drop k xs ≡ x ∷ drop (k + 1) xs
drop_next {A = A} xs k x h = drop_more xs k x (slice_get_within xs k x h) ∙ ap (λ (y : A). y ∷ drop (k + 1) xs) (get_or_from_slice_get xs k x x h)

-- One seat's calls, up to the next one that has a ticket.

pub turn-none : (calls : List Call) (at : ℕ) → length calls ≤ at → next_turn (drop at calls) ≡ []
unfolding next_turn
turn-none calls at all = ap next_turn (drop_of_length-le calls all)

next_if : (c : Call) (calls : List Call) (b : Bool) → is_some c.ticket ≡ b → next_turn (c ∷ calls) ≡ cond b (c ∷ []) (c ∷ next_turn calls)
unfolding next_turn
next_if c calls b is = rw is refl

pub turn-more : (calls : List Call) (at : ℕ) (c : Call) → slice_get calls at ≡ Some c → is_some c.ticket ≡ false → next_turn (drop at calls) ≡ c ∷ next_turn (drop (at + 1) calls)
turn-more calls at c here none = ap next_turn (drop_next calls at c here) ∙ next_if c (drop (at + 1) calls) false none

pub turn-last : (calls : List Call) (at : ℕ) (c : Call) → slice_get calls at ≡ Some c → is_some c.ticket ≡ true → next_turn (drop at calls) ≡ c ∷ []
turn-last calls at c here some = ap next_turn (drop_next calls at c here) ∙ next_if c (drop (at + 1) calls) true some

-- the turns so far, with what is left of the turn, and how many calls they are
pub record IsTaking (t : ℕ) (calls : List Call) (from : ℕ) (old : List TurnShown) (at : ℕ) (now : List TurnShown) : Type 0 where
  pub turns : old ++ turns_by t (next_turn (drop from calls)) ≡ now ++ turns_by t (next_turn (drop at calls))
  pub count : from + length (next_turn (drop from calls)) ≡ at + length (next_turn (drop at calls))

module _ (t : ℕ) (calls : List Call) (from : ℕ) (old : List TurnShown) (at : ℕ) (now : List TurnShown) (so_far : IsTaking t calls from old at now) where
  pub taking-more : (c : Call) → slice_get calls at ≡ Some c → is_some c.ticket ≡ false → IsTaking t calls from old (at + 1) (now ++ turn_of t c ∷ [])
  taking-more c here none = record {
    turns = so_far.turns ∙ (ap (λ (xs : List Call). now ++ turns_by t xs) (turn-more calls at c here none) ∙ sym (append_assoc now (turn_of t c ∷ []) (turns_by t (next_turn (drop (at + 1) calls)))));
    count = let n = ap length (turn-more calls at c here none) in let m = so_far.count in omega (arith, n, m);
  }

  pub taking-last : (c : Call) → slice_get calls at ≡ Some c → is_some c.ticket ≡ true →
      (at + 1 ≡ from + length (next_turn (drop from calls))) × (now ++ turn_of t c ∷ [] ≡ old ++ turns_by t (next_turn (drop from calls)))
  taking-last c here some = (
    (let n = ap length (turn-last calls at c here some) in let m = so_far.count in omega (arith, n, m)),
    sym (so_far.turns ∙ ap (λ (xs : List Call). now ++ turns_by t xs) (turn-last calls at c here some)),
  )

  pub taking-end : length calls ≤ at → at ≤ length calls → (length calls ≡ from + length (next_turn (drop from calls))) × (now ≡ old ++ turns_by t (next_turn (drop from calls)))
  taking-end all within = (
    (let n = ap length (turn-none calls at all) in let m = so_far.count in omega (arith, n, m)),
    sym (so_far.turns ∙ (ap (λ (xs : List Call). now ++ turns_by t xs) (turn-none calls at all) ∙ append-nil now)),
  )

next_front_if : (c : Call) (calls : List Call) (b : Bool) → next_turn calls ≡ take (length (next_turn calls)) calls → length (next_turn calls) ≤ length calls →
    (cond b (c ∷ []) (c ∷ next_turn calls) ≡ take (length (cond b (c ∷ []) (c ∷ next_turn calls))) (c ∷ calls)) × (length (cond b (c ∷ []) (c ∷ next_turn calls)) ≤ suc (length calls))
next_front_if c calls true front short = (refl, (omega arith))
next_front_if c calls false front short = (ap (λ (xs : List Call). c ∷ xs) front, (omega (arith, short)))

-- it is a front of them
next_front : (calls : List Call) → (next_turn calls ≡ take (length (next_turn calls)) calls) × (length (next_turn calls) ≤ length calls)
unfolding next_turn
next_front [] = (refl, (omega arith))
next_front (c ∷ calls) = let rest = next_front calls in next_front_if c calls (is_some c.ticket) rest.0 rest.1

pub take_block : (calls : List Call) (from : ℕ) → from ≤ length calls →
    (take from calls ++ next_turn (drop from calls) ≡ take (from + length (next_turn (drop from calls))) calls) × (from + length (next_turn (drop from calls)) ≤ length calls)
take_block calls from within =
    let front = next_front (drop from calls) in (
      ap (λ (xs : List Call). take from calls ++ xs) front.0 ∙ sym (take-add from (length (next_turn (drop from calls))) calls),
      (let low = front.1 in let n = length-drop from calls in omega (arith, low, n, within)),
    )

-- Tickets of the calls.

pub asks_both : (xs ys : List Call) → ticketed_calls (xs ++ ys) ≡ ticketed_calls xs ++ ticketed_calls ys
asks_both xs ys = ap (map {B = Key} (λ (x : Call). (x.ticket, x.event))) (filter-append (λ (x : Call). is_some x.ticket) xs ys)
    ∙ map-append {B = Key} (λ (x : Call). (x.ticket, x.event)) (filter (λ (x : Call). is_some x.ticket) xs) (filter (λ (x : Call). is_some x.ticket) ys)

asks_if : (c : Call) (calls : List Call) (b : Bool) → is_some c.ticket ≡ b → ticketed_calls (c ∷ calls) ≡ cond b ((c.ticket, c.event) ∷ ticketed_calls calls) (ticketed_calls calls)
asks_if c calls true is = rw is refl
asks_if c calls false is = rw is refl

head_is : (a b : Key) (xs ys : List Key) → a ∷ xs ≡ b ∷ ys → a ≡ b
head_is a b xs ys same = cc

asks_next_if : (c : Call) (calls : List Call) (a : Key) (more : List Key) (b : Bool) → is_some c.ticket ≡ b → cond b ((c.ticket, c.event) ∷ ticketed_calls calls) (ticketed_calls calls) ≡ a ∷ more → (ticketed_calls calls ≡ a ∷ more → ticketed_calls (next_turn calls) ≡ a ∷ []) →
    ticketed_calls (cond b (c ∷ []) (c ∷ next_turn calls)) ≡ a ∷ []
asks_next_if c calls a more true is same rest = asks_if c [] true is ∙ ap (λ (x : Key). x ∷ []) (head_is (c.ticket, c.event) a (ticketed_calls calls) more same)
asks_next_if c calls a more false is same rest = asks_if c (next_turn calls) false is ∙ rest same

-- of a turn, the first of the calls
pub asks_next : (calls : List Call) (a : Key) (more : List Key) → ticketed_calls calls ≡ a ∷ more → ticketed_calls (next_turn calls) ≡ a ∷ []
asks_next [] a more same = absurd (cc)
asks_next (c ∷ calls) a more same =
    ap ticketed_calls (next_if c calls (is_some c.ticket) refl) ∙ asks_next_if c calls a more (is_some c.ticket) refl (sym (asks_if c calls (is_some c.ticket) refl) ∙ same) (λ e. asks_next calls a more e)

bare_if : (c : Call) (calls : List Call) (b : Bool) → is_some c.ticket ≡ b → cond b ((c.ticket, c.event) ∷ ticketed_calls calls) (ticketed_calls calls) ≡ [] → (is_some c.ticket ≡ false) × (ticketed_calls calls ≡ [])
bare_if c calls true is same = absurd (cc)
bare_if c calls false is same = (is, same)

asks_none : (c : Call) (calls : List Call) → ticketed_calls (c ∷ calls) ≡ [] → (is_some c.ticket ≡ false) × (ticketed_calls calls ≡ [])
asks_none c calls same = bare_if c calls (is_some c.ticket) refl (sym (asks_if c calls (is_some c.ticket) refl) ∙ same)

-- calls without a ticket are all in one turn
pub whole_turn : (calls : List Call) → ticketed_calls calls ≡ [] → next_turn calls ≡ calls
unfolding next_turn
whole_turn [] same = refl
whole_turn (c ∷ calls) same = let e = asks_none c calls same in next_if c calls false e.0 ∙ ap (λ (xs : List Call). c ∷ xs) (whole_turn calls e.1)

no_ticket : (o : Option ℕ) → is_some o ≡ false → o ≡ None
no_ticket None h = refl
no_ticket (Some t) h = absurd (cc)

pub all_bare : (calls : List Call) → ticketed_calls calls ≡ [] → (k : ℕ) (c : Call) → slice_get calls k ≡ Some c → c.ticket ≡ None
all_bare [] same k c h = absurd (cc)
all_bare (x ∷ calls) same zero c h = let is : x ≡ c = cc in rw (← is) (no_ticket x.ticket (asks_none x calls same).0)
all_bare (x ∷ calls) same (suc k) c h = all_bare calls (asks_none x calls same).1 k c h

-- Turns of one thread.

pub calls_both : (t : ℕ) (xs ys : List TurnShown) → calls_of t (xs ++ ys) ≡ calls_of t xs ++ calls_of t ys
calls_both t xs ys = ap (map (λ (a : TurnShown). a.call)) (filter-append (λ (a : TurnShown). a.thread == t) xs ys)
    ∙ map-append (λ (a : TurnShown). a.call) (filter (λ (a : TurnShown). a.thread == t) xs) (filter (λ (a : TurnShown). a.thread == t) ys)

pub asked_both : (xs ys : List TurnShown) → ticketed_turns (xs ++ ys) ≡ ticketed_turns xs ++ ticketed_turns ys
asked_both xs ys = ap (map {B = ℕ × Key} (λ (a : TurnShown). (a.thread, (a.call.ticket, a.call.event)))) (filter-append (λ (a : TurnShown). is_some a.call.ticket) xs ys)
    ∙ map-append {B = ℕ × Key} (λ (a : TurnShown). (a.thread, (a.call.ticket, a.call.event))) (filter (λ (a : TurnShown). is_some a.call.ticket) xs) (filter (λ (a : TurnShown). is_some a.call.ticket) ys)

pub calls_same : (t : ℕ) (calls : List Call) → calls_of t (turns_by t calls) ≡ calls
calls_same t [] = refl
calls_same t (c ∷ calls) = rw (eq-eqb t t refl) (ap (λ (xs : List Call). c ∷ xs) (calls_same t calls))

pub calls_other : (t u : ℕ) (calls : List Call) → Not (t ≡ u) → calls_of u (turns_by t calls) ≡ []
calls_other t u [] apart = refl
calls_other t u (c ∷ calls) apart = elim (eqb_tells t u) [ inl hit ↦ absurd (apart hit.1) | inr miss ↦ rw miss.0 (calls_other t u calls apart) ]

asked_by_if : (t : ℕ) (c : Call) (calls : List Call) (b : Bool) → is_some c.ticket ≡ b → ticketed_turns (turns_by t calls) ≡ map {B = ℕ × Key} (λ (p : Key). (t, p)) (ticketed_calls calls) →
    ticketed_turns (turn_of t c ∷ turns_by t calls) ≡ map {B = ℕ × Key} (λ (p : Key). (t, p)) (cond b ((c.ticket, c.event) ∷ ticketed_calls calls) (ticketed_calls calls))
asked_by_if t c calls true is rest = rw is (ap (λ (xs : List (ℕ × Key)). (t, (c.ticket, c.event)) ∷ xs) rest)
asked_by_if t c calls false is rest = rw is rest

pub asked_by : (t : ℕ) (calls : List Call) → ticketed_turns (turns_by t calls) ≡ map {B = ℕ × Key} (λ (p : Key). (t, p)) (ticketed_calls calls)
asked_by t [] = refl
asked_by t (c ∷ calls) = asked_by_if t c calls (is_some c.ticket) refl (asked_by t calls) ∙ ap (map {B = ℕ × Key} (λ (p : Key). (t, p))) (sym (asks_if c calls (is_some c.ticket) refl))

-- a thread's own among those of all threads
abbrev own_of : ℕ → List (ℕ × Key) → List Key
own_of t xs = map (λ (p : ℕ × Key). p.1) (filter (λ (p : ℕ × Key). p.0 == t) xs)

module _ (t : ℕ) where
  asks_own_if : (a : TurnShown) (turns : List TurnShown) (own some : Bool) → (a.thread == t) ≡ own → is_some a.call.ticket ≡ some → ticketed_calls (calls_of t turns) ≡ own_of t (ticketed_turns turns) → ticketed_calls (calls_of t (a ∷ turns)) ≡ own_of t (ticketed_turns (a ∷ turns))
  asks_own_if a turns true true own some rest = rw (own, some, own) (ap (λ (xs : List Key). (a.call.ticket, a.call.event) ∷ xs) rest)
  asks_own_if a turns true false own some rest = rw (own, some) rest
  asks_own_if a turns false true own some rest = rw (own, some, own) rest
  asks_own_if a turns false false own some rest = rw (own, some) rest

  pub asks_own : (turns : List TurnShown) → ticketed_calls (calls_of t turns) ≡ own_of t (ticketed_turns turns)
  asks_own [] = refl
  asks_own (a ∷ turns) = asks_own_if a turns (a.thread == t) (is_some a.call.ticket) refl refl (asks_own turns)

  tells_own_if : (d : EntryAt) (order : List EntryAt) (own : Bool) → (d.entry.thread == t) ≡ own → ticketed_entries (entries_by t order) ≡ own_of t (entry_turns order) → ticketed_entries (entries_by t (d ∷ order)) ≡ own_of t (entry_turns (d ∷ order))
  tells_own_if d order true own rest = rw own (ap (λ (xs : List Key). (Some d.entry.ticket, event_of d.entry.what) ∷ xs) rest)
  tells_own_if d order false own rest = rw own rest

  pub tells_own : (order : List EntryAt) → ticketed_entries (entries_by t order) ≡ own_of t (entry_turns order)
  tells_own [] = refl
  tells_own (d ∷ order) = tells_own_if d order (d.entry.thread == t) refl (tells_own order)

  -- what a thread asked is what it was told
  pub own_told : (turns : List TurnShown) (order : List EntryAt) → ticketed_turns turns ≡ entry_turns order → ticketed_calls (calls_of t turns) ≡ ticketed_entries (entries_by t order)
  own_told turns order told = asks_own turns ∙ (ap (own_of t) told ∙ sym (tells_own order))

-- Closed lists.

pub closed-both : (xs ys : List TurnShown) → IsClosed xs → IsClosed ys → IsClosed (xs ++ ys)
closed-both xs ys front behind = record {
  each = λ k a h none. elim (get_both xs ys k a h) [
    | inl p ↦ (
        let e = front.each k a p none in
        ((e.0.0, get_still xs ys (k + 1) e.0.0 e.0.1, e.0.2), (e.1.0, e.1.1, e.1.2, get_still xs ys e.1.0 e.1.1 e.1.3, e.1.4, e.1.5)))
    | inr q ↦ (
        let e = behind.each q.0 a q.2 none in
        let place : length xs + (q.0 + 1) ≡ k + 1 = (let s = q.1 in omega (arith, s)) in (
          (e.0.0, rw place at (got_behind xs ys (q.0 + 1) e.0.0 e.0.1), e.0.2),
          (length xs + e.1.0, e.1.1, (let s = q.1 in let low = e.1.2 in omega (arith, s, low)), got_behind xs ys e.1.0 e.1.1 e.1.3, e.1.4, e.1.5),
        ))
  ];
}

-- the turn ends in a call with a ticket
ends_if : (t : ℕ) (c : Call) (calls : List Call) (a : Key) (more : List Key) (b : Bool) → is_some c.ticket ≡ b → cond b ((c.ticket, c.event) ∷ ticketed_calls calls) (ticketed_calls calls) ≡ a ∷ more →
    (ticketed_calls calls ≡ a ∷ more → (m : ℕ) × (x : TurnShown) × (slice_get (turns_by t (next_turn calls)) m ≡ Some x) × (x.thread ≡ t) × IsSome x.call.ticket) →
    (m : ℕ) × (x : TurnShown) × (slice_get (turns_by t (cond b (c ∷ []) (c ∷ next_turn calls))) m ≡ Some x) × (x.thread ≡ t) × IsSome x.call.ticket
ends_if t c calls a more true is same rest = (zero, turn_of t c, refl, refl, is)
ends_if t c calls a more false is same rest = let r = rest same in (suc r.0, r.1, r.2, r.3, r.4)

ends : (t : ℕ) (calls : List Call) (a : Key) (more : List Key) → ticketed_calls calls ≡ a ∷ more → (m : ℕ) × (x : TurnShown) × (slice_get (turns_by t (next_turn calls)) m ≡ Some x) × (x.thread ≡ t) × IsSome x.call.ticket
unfolding next_turn
ends t [] a more same = absurd (cc)
ends t (c ∷ calls) a more same = ends_if t c calls a more (is_some c.ticket) refl (sym (asks_if c calls (is_some c.ticket) refl) ∙ same) (λ e. ends t calls a more e)

begins : (t : ℕ) (xs : List Call) (m : ℕ) (x : TurnShown) → slice_get (turns_by t xs) m ≡ Some x → (a : TurnShown) × (slice_get (turns_by t xs) 0 ≡ Some a) × (a.thread ≡ t)
begins t [] m x h = absurd (cc)
begins t (c ∷ xs) m x h = (turn_of t c, refl, refl)

later_in : (xs : List TurnShown) (a x : TurnShown) (k t : ℕ) → HasTicketLater xs k t → HasTicketLater (a ∷ xs) (suc k) t
later_in xs a x k t h = (suc h.0, h.1, (let low = h.2 in omega (arith, low)), h.3, h.4, h.5)

closed_cons : (t : ℕ) (c : Call) (calls : List Call) → ((m : ℕ) × (x : TurnShown) × (slice_get (turns_by t calls) m ≡ Some x) × (x.thread ≡ t) × IsSome x.call.ticket) → IsClosed (turns_by t calls) → (k : ℕ) (a : TurnShown) → slice_get (turn_of t c ∷ turns_by t calls) k ≡ Some a → a.call.ticket ≡ None →
    HasNext (turn_of t c ∷ turns_by t calls) k a.thread × HasTicketLater (turn_of t c ∷ turns_by t calls) k a.thread
closed_cons t c calls end old zero a h none =
    let first = begins t calls end.0 end.1 end.2 in
    let same : turn_of t c ≡ a = cc in
    let own : t ≡ a.thread = ap (λ (x : TurnShown). x.thread) same in
    ((first.0, first.1, first.2 ∙ own), (suc end.0, end.1, (omega arith), end.2, end.3 ∙ own, end.4))
closed_cons t c calls end old (suc k) a h none =
    let e = old.each k a h none in
    ((e.0.0, rw (suc_more k) e.0.1, e.0.2), later_in (turns_by t calls) (turn_of t c) a k a.thread e.1)
  where
    suc_more : (n : ℕ) → suc n + 1 ≡ suc (n + 1)
    suc_more n = omega arith

closed_if : (t : ℕ) (c : Call) (calls : List Call) (a : Key) (more : List Key) (b : Bool) → is_some c.ticket ≡ b → cond b ((c.ticket, c.event) ∷ ticketed_calls calls) (ticketed_calls calls) ≡ a ∷ more → (ticketed_calls calls ≡ a ∷ more → IsClosed (turns_by t (next_turn calls))) →
    IsClosed (turns_by t (cond b (c ∷ []) (c ∷ next_turn calls)))
closed_if t c calls a more true is same rest = record { each = λ k x h none. absurd (only k x h none) }
  where
    only : (k : ℕ) (x : TurnShown) → slice_get (turn_of t c ∷ []) k ≡ Some x → x.call.ticket ≡ None → ⊥
    only zero x h none = let e : turn_of t c ≡ x = cc in let gone : c.ticket ≡ None = ap (λ (y : TurnShown). y.call.ticket) e ∙ none in let has = rw gone at is in cc
    only (suc k) x h none = cc
closed_if t c calls a more false is same rest = record { each = closed_cons t c (next_turn calls) (ends t calls a more same) (rest same) }

pub closed-turn : (t : ℕ) (calls : List Call) (a : Key) (more : List Key) → ticketed_calls calls ≡ a ∷ more → IsClosed (turns_by t (next_turn calls))
unfolding next_turn
closed-turn t [] a more same = absurd (cc)
closed-turn t (c ∷ calls) a more same = closed_if t c calls a more (is_some c.ticket) refl (sym (asks_if c calls (is_some c.ticket) refl) ∙ same) (λ e. closed-turn t calls a more e)

-- The next entry.

told_push : (order : List EntryAt) (k : ℕ) (d : EntryAt) → slice_get order k ≡ Some d → entry_turns (take (k + 1) order) ≡ entry_turns (take k order) ++ (d.entry.thread, (Some d.entry.ticket, event_of d.entry.what)) ∷ []
told_push order k d here = ap entry_turns (take_next order k d here) ∙ map-append {B = ℕ × Key} (λ (x : EntryAt). (x.entry.thread, (Some x.entry.ticket, event_of x.entry.what))) (take k order) (d ∷ [])

tells_from : (t : ℕ) (order : List EntryAt) (k : ℕ) (d : EntryAt) → slice_get order k ≡ Some d → d.entry.thread ≡ t →
    ticketed_entries (entries_by t order) ≡ ticketed_entries (entries_by t (take k order)) ++ (Some d.entry.ticket, event_of d.entry.what) ∷ ticketed_entries (entries_by t (drop (k + 1) order))
tells_from t order k d here own =
    let whole : order ≡ take k order ++ d ∷ drop (k + 1) order = sym (take-append-drop k order) ∙ ap (λ (xs : List EntryAt). take k order ++ xs) (drop_next order k d here) in
    let mine : entries_by t (d ∷ drop (k + 1) order) ≡ d ∷ entries_by t (drop (k + 1) order) = rw (eq-eqb d.entry.thread t own) refl in
    ap (λ (xs : List EntryAt). ticketed_entries (entries_by t xs)) whole
    ∙ (ap ticketed_entries (filter-append (λ (x : EntryAt). x.entry.thread == t) (take k order) (d ∷ drop (k + 1) order) ∙ ap (λ (xs : List EntryAt). entries_by t (take k order) ++ xs) mine)
    ∙ map-append {B = Key} (λ (x : EntryAt). (Some x.entry.ticket, event_of x.entry.what)) (entries_by t (take k order)) (d ∷ entries_by t (drop (k + 1) order)))

-- what is left of the seat's calls begins with what the entry tells
pub left_asks : (s : SeatList) (order : List EntryAt) (k from : ℕ) (d : EntryAt) (turns : List TurnShown) → ticketed_calls s.calls ≡ ticketed_entries (entries_by s.thread order) → ticketed_turns turns ≡ entry_turns (take k order) → calls_of s.thread turns ≡ take from s.calls →
    slice_get order k ≡ Some d → d.entry.thread ≡ s.thread → ticketed_calls (drop from s.calls) ≡ (Some d.entry.ticket, event_of d.entry.what) ∷ ticketed_entries (entries_by s.thread (drop (k + 1) order))
left_asks s order k from d turns agree told calls here own =
    let before : ticketed_calls (take from s.calls) ≡ ticketed_entries (entries_by s.thread (take k order)) = ap ticketed_calls (sym calls) ∙ own_told s.thread turns (take k order) told in
    let split : ticketed_calls s.calls ≡ ticketed_calls (take from s.calls) ++ ticketed_calls (drop from s.calls) = ap ticketed_calls (sym (take-append-drop from s.calls)) ∙ asks_both (take from s.calls) (drop from s.calls) in
    append_cancel_left (ticketed_calls (take from s.calls)) (ticketed_calls (drop from s.calls)) ((Some d.entry.ticket, event_of d.entry.what) ∷ ticketed_entries (entries_by s.thread (drop (k + 1) order)))
    (sym split ∙ (agree ∙ (tells_from s.thread order k d here own ∙ ap (λ (xs : List Key). xs ++ (Some d.entry.ticket, event_of d.entry.what) ∷ ticketed_entries (entries_by s.thread (drop (k + 1) order))) (sym before))))

same_seat : (seats : List SeatList) (i j : ℕ) (r s : SeatList) → i ≡ j → slice_get seats i ≡ Some r → slice_get seats j ≡ Some s → r ≡ s
same_seat seats i j r s same hr hs = let both : Some r ≡ Some s = sym hr ∙ (ap (slice_get seats) same ∙ hs) in cc

pub turns_whose : (t : ℕ) (calls : List Call) (m : ℕ) (a : TurnShown) → slice_get (turns_by t calls) m ≡ Some a → a.thread ≡ t
turns_whose t [] m a h = absurd (cc)
turns_whose t (c ∷ calls) zero a h = let e : turn_of t c ≡ a = cc in ap (λ (x : TurnShown). x.thread) (sym e)
turns_whose t (c ∷ calls) (suc m) a h = turns_whose t calls m a h

module _ (seats : List SeatList) (order : List EntryAt) (k i : ℕ) (d : EntryAt) (s : SeatList) (next : List ℕ) (turns : List TurnShown) (once : (j : ℕ) (r : SeatList) → slice_get seats j ≡ Some r → r.thread ≡ s.thread → j ≡ i) (agree : AllAgree seats order)
    (old : AreTaken seats (take k order) next turns) (here : slice_get order k ≡ Some d) (seat : slice_get seats i ≡ Some s) (thread : s.thread ≡ d.entry.thread) where
  abbrev block : List Call
  block = next_turn (drop (slice_index next i) s.calls)

  block_asks : ticketed_calls block ≡ (Some d.entry.ticket, event_of d.entry.what) ∷ []
  block_asks = asks_next (drop (slice_index next i) s.calls) (Some d.entry.ticket, event_of d.entry.what) (ticketed_entries (entries_by s.thread (drop (k + 1) order)))
      (left_asks s order k (slice_index next i) d turns (agree i s seat) old.told (old.calls i s seat).0 here (sym thread))

  told_more : ticketed_turns (turns ++ turns_by s.thread block) ≡ entry_turns (take (k + 1) order)
  told_more = asked_both turns (turns_by s.thread block)
      ∙ (ap (λ (xs : List (ℕ × Key)). xs ++ ticketed_turns (turns_by s.thread block)) old.told
      ∙ (ap (λ (xs : List (ℕ × Key)). entry_turns (take k order) ++ xs) (asked_by s.thread block ∙ (ap (map {B = ℕ × Key} (λ (p : Key). (s.thread, p))) block_asks ∙ ap (λ (t : ℕ). (t, (Some d.entry.ticket, event_of d.entry.what)) ∷ []) thread))
      ∙ sym (told_push order k d here)))

  calls_more : (j : ℕ) (r : SeatList) → slice_get seats j ≡ Some r → (calls_of r.thread (turns ++ turns_by s.thread block) ≡ take (slice_index (set next i (slice_index next i + length block)) j) r.calls) × (slice_index (set next i (slice_index next i + length block)) j ≤ length r.calls)
  calls_more j r h = elim (eq_or j i) [
    | inl same ↦ (
        let whose : r ≡ s = same_seat seats j i r s same h seat in
        let inside : i < length next = (let w = slice_get_within seats i s seat in let n = old.places in omega (arith, w, n)) in
        let place : slice_index (set next i (slice_index next i + length block)) j ≡ slice_index next i + length block = index_same next i j (slice_index next i + length block) (sym same) inside in
        let part = take_block s.calls (slice_index next i) (old.calls i s seat).1 in
        rw (place, whose) (
          calls_both s.thread turns (turns_by s.thread block) ∙ (ap (λ (xs : List Call). xs ++ calls_of s.thread (turns_by s.thread block)) (old.calls i s seat).0
              ∙ (ap (λ (xs : List Call). take (slice_index next i) s.calls ++ xs) (calls_same s.thread block) ∙ part.0)),
          part.1,
        ))
    | inr apart ↦ (
        let place : slice_index (set next i (slice_index next i + length block)) j ≡ slice_index next j = index_other next i j (slice_index next i + length block) apart in
        let other : Not (s.thread ≡ r.thread) = λ e. apart (once j r h (sym e)) in
        rw place (calls_both r.thread turns (turns_by s.thread block) ∙ (ap (λ (xs : List Call). calls_of r.thread turns ++ xs) (calls_other s.thread r.thread block other) ∙ (append-nil (calls_of r.thread turns) ∙ (old.calls j r h).0)), (old.calls j r h).1))
  ]

  pub taken-more : AreTaken seats (take (k + 1) order) (set next i (slice_index next i + length block)) (turns ++ turns_by s.thread block)
  taken-more = record {
    places = length-set next i (slice_index next i + length block) ∙ old.places;
    calls = calls_more;
    given = λ m a h. elim (get_both turns (turns_by s.thread block) m a h) [ inl p ↦ old.given m a p | inr q ↦ (i, s, seat, sym (turns_whose s.thread block q.0 a q.2)) ];
    told = told_more;
    closed = closed-both turns (turns_by s.thread block) old.closed (closed-turn s.thread (drop (slice_index next i) s.calls) (Some d.entry.ticket, event_of d.entry.what) (ticketed_entries (entries_by s.thread (drop (k + 1) order)))
        (left_asks s order k (slice_index next i) d turns (agree i s seat) old.told (old.calls i s seat).0 here (sym thread)));
  }

-- what the code finds by a number
pub seat_read : (seats : List SeatList) (index : BTreeMap ℕ ℕ) (number i : ℕ) (s : SeatList) → IsIndex seats index → get nat_cmp index number ≡ Some i → s ≡ get_or seats i s → (slice_get seats i ≡ Some s) × (s.thread ≡ number)
seat_read seats index number i s at found read =
    let seat = at.there number i found in
    let got : slice_get seats i ≡ Some s = slice_get_read seats (length seats) i s refl (slice_get_within seats i seat.0 seat.1) read in
    let both : Some seat.0 ≡ Some s = sym seat.1 ∙ got in
    let same : seat.0 ≡ s = cc in
    (got, ap (λ (x : SeatList). x.thread) (sym same) ∙ seat.2)

-- the same, as the code reads it
pub taken-step : (seats : List SeatList) (order : List EntryAt) (k i number from v : ℕ) (d : EntryAt) (s : SeatList) (next later : List ℕ) (turns now : List TurnShown) (index : BTreeMap ℕ ℕ) → AreDistinct seats → IsIndex seats index → AllAgree seats order →
    AreTaken seats (take k order) next turns → slice_get order k ≡ Some d → get nat_cmp index number ≡ Some i → number ≡ d.entry.thread → s ≡ get_or seats i s → from ≡ get_or next i from →
    v ≡ from + length (next_turn (drop from s.calls)) → now ≡ turns ++ turns_by s.thread (next_turn (drop from s.calls)) → later ≡ set next i v → AreTaken seats (take (k + 1) order) later now
taken-step seats order k i number from v d s next later turns now index once at agree old here found thread read place count grown is =
    let seat = seat_read seats index number i s at found read in
    let inside : i < length next = (let w = slice_get_within seats i s seat.0 in let n = old.places in omega (arith, w, n)) in
    let from_is : from ≡ slice_index next i = number_read next i from inside place in
    rw (is, count, grown, from_is) (taken-more seats order k i d s next turns (λ j r h e. once_at seats j i r s once h seat.0 e) agree old here seat.0 (seat.1 ∙ thread))

pub seat_inside : (seats : List SeatList) (index : BTreeMap ℕ ℕ) (number i : ℕ) → IsIndex seats index → get nat_cmp index number ≡ Some i → i < length seats
seat_inside seats index number i at found = let seat = at.there number i found in slice_get_within seats i seat.0 seat.1

pub from_within : (seats : List SeatList) (order : List EntryAt) (i from : ℕ) (s : SeatList) (next : List ℕ) (turns : List TurnShown) → AreTaken seats order next turns → i < length seats → s ≡ get_or seats i s → from ≡ get_or next i from → from ≤ length s.calls
from_within seats order i from s next turns old inside read place =
    let seat : slice_get seats i ≡ Some s = slice_get_read seats (length seats) i s refl inside read in
    let is : from ≡ slice_index next i = number_read next i from (let n = old.places in omega (arith, n, inside)) place in
    rw is (old.calls i s seat).1

-- each of so many zeros is one
pub each_zero : (n k : ℕ) → slice_index (replicate n 0) k ≡ 0
each_zero zero k = refl
each_zero (suc n) zero = refl
each_zero (suc n) (suc k) = each_zero n k

-- before the first entry nothing is taken
pub taken-none : (seats : List SeatList) (next : List ℕ) → length next ≡ length seats → ((k : ℕ) → slice_index next k ≡ 0) → AreTaken seats [] next []
taken-none seats next count zeros = record {
  places = count;
  calls = λ i s h. rw (zeros i) (refl, (omega arith));
  given = λ k a h. absurd (cc);
  told = refl;
  closed = record { each = λ k a h none. absurd (cc) };
}

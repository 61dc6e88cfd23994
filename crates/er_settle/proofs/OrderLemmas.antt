-- The entries of all journals, taken by least next ticket.
use Rattle.std.proofs.Common.{◌≡◌, ℕ, ◌+◌, ◌<◌, ◌≤◌, List, [], ◌∷◌, ◌++◌, Bool, true, false, cond, length, take, set, get_or, map, refl, sym, ap, ◌∙◌, arith, zero, suc, inl, inr, append-nil, length-set}
use Rattle.std.specs.Prelude.{slice_get, slice_index, Some, None, Option, filter, ◌==◌}
use Rattle.std.proofs.lemmas.Bool.{cases_order, eqb-true}
use Rattle.std.proofs.lemmas.Bool.Decides.{eqb_tells, leb_tells}
use Rattle.std.proofs.lemmas.List.{map-append}
use Rattle.std.proofs.lemmas.List.Elements.{filter-append}
use Rattle.std.proofs.lemmas.Option.{slice_get_within, slice_get_read}
use Rattle.er_settle.proofs.ListLemmas.{get_push}
use Rattle.er_journal.specs.Entries.{Entry}
use Rattle.er_settle.proofs.ListLemmas.{index_same, index_other, number_read}
use Rattle.er_settle.specs.Faults.{EachTwo, EntriesRise, JournalsRise, IsEntry, Not}
use Rattle.er_settle.specs.Inner.SeatChecks.{IsAbove}
use Rattle.er_settle.specs.Inner.JournalOrder.{EntryAt, entry_at, OrderRises, entries_at, IsOrder, IsNext, IsSoonest, IsLeast, sooner_of, IsLastTaken, IsOrderSoFar}
use Rattle.er_settle.proofs.ListLemmas.{take_next, each_two-push, each_two-none, all_taken}
use Rattle.er_settle.proofs.NumberLemmas.{eq_or}

-- one shard at one place
one_next : (journals : List (List Entry)) (read : List ℕ) (p : ℕ) (s : List Entry) (o : Option Entry) (e : Entry) → slice_get journals p ≡ Some s → slice_get s (slice_index read p) ≡ o → IsNext journals read p e → o ≡ Some e
one_next journals read p s o e here is next =
    let both : Some s ≡ Some next.0 = sym here ∙ next.1 in
    let same : s ≡ next.0 = cc in
    sym is ∙ (ap (λ (x : List Entry). slice_get x (slice_index read p)) same ∙ next.2)

soonest-none : (journals : List (List Entry)) (read : List ℕ) (k : ℕ) (s : List Entry) (old : Option (ℕ × ℕ)) → IsSoonest journals read k old → slice_get journals k ≡ Some s → slice_get s (slice_index read k) ≡ None → IsSoonest journals read (k + 1) old
soonest-none journals read k s None was here none = λ p e below next. elim (cases_order p k) [
  | inl same ↦ absurd (let e2 = one_next journals read k s None e here none (rw (← same) next) in cc)
  | inr other ↦ elim other [ inl less ↦ was p e less next | inr more ↦ absurd (omega arith) ]
]
soonest-none journals read k s (Some w) was here none = (
  was.0,
  λ p e below next. elim (cases_order p k) [
    | inl same ↦ absurd (let e2 = one_next journals read k s None e here none (rw (← same) next) in cc)
    | inr other ↦ elim other [ inl less ↦ was.1 p e less next | inr more ↦ absurd (omega arith) ]
  ],
)

ticket_here : (journals : List (List Entry)) (read : List ℕ) (p k : ℕ) (s : List Entry) (e d : Entry) → slice_get journals k ≡ Some s → slice_get s (slice_index read k) ≡ Some e → p ≡ k → IsNext journals read p d → d.ticket ≡ e.ticket
ticket_here journals read p k s e d here next same other =
    let both : Some e ≡ Some d = one_next journals read k s (Some e) d here next (rw (← same) other) in
    let is : e ≡ d = cc in
    ap (λ (x : Entry). x.ticket) (sym is)

soonest-one : (journals : List (List Entry)) (read : List ℕ) (k : ℕ) (s : List Entry) (e : Entry) (old : Option (ℕ × ℕ)) → IsSoonest journals read k old → slice_get journals k ≡ Some s → slice_get s (slice_index read k) ≡ Some e
    → IsSoonest journals read (k + 1) (sooner_of old e.ticket k)
soonest-one journals read k s e None was here next = (
  (e, (s, here, next), refl),
  λ p d below other. elim (cases_order p k) [
    | inl same ↦ (let t = ticket_here journals read p k s e d here next same other in omega (arith, t))
    | inr apart ↦ elim apart [ inl less ↦ absurd (was p d less other) | inr more ↦ absurd (omega arith) ]
  ],
)
soonest-one journals read k s e (Some w) was here next = elim (leb_tells w.0 e.ticket) [
  | inl low ↦ rw low.0 (
    was.0,
    λ p d below other. elim (cases_order p k) [
      | inl same ↦ (let t = ticket_here journals read p k s e d here next same other in omega (arith, t, low.1))
      | inr apart ↦ elim apart [ inl less ↦ was.1 p d less other | inr more ↦ absurd (omega arith) ]
    ],
  )
  | inr high ↦ rw high.0 (
    (e, (s, here, next), refl),
    λ p d below other. elim (cases_order p k) [
      | inl same ↦ (let t = ticket_here journals read p k s e d here next same other in omega (arith, t))
      | inr apart ↦ elim apart [ inl less ↦ (let t = was.1 p d less other in let h = high.1 in omega (arith, t, h)) | inr more ↦ absurd (omega arith) ]
    ],
  )
]

pub soonest-more : (journals : List (List Entry)) (read : List ℕ) (k : ℕ) (s : List Entry) (e : Entry) (old new : Option (ℕ × ℕ)) → slice_get journals k ≡ Some s → slice_get s (slice_index read k) ≡ Some e → new ≡ sooner_of old e.ticket k → IsSoonest journals read k old → IsSoonest journals read (k + 1) new
soonest-more journals read k s e old new here next is was = rw is (soonest-one journals read k s e old was here next)

in_shards : (journals : List (List Entry)) (read : List ℕ) (p : ℕ) (e : Entry) → IsNext journals read p e → p < length journals
in_shards journals read p e next = slice_get_within journals p next.0 next.1

pub least-some : (journals : List (List Entry)) (read : List ℕ) (k t p : ℕ) → length journals ≤ k → IsSoonest journals read k (Some (t, p)) → IsLeast journals read p
least-some journals read k t p all was = record { entry = was.0.0; next = was.0.1; least = λ q d next. (let low = was.1 q d (let i = in_shards journals read q d next in omega (arith, i)) next in let same = was.0.2 in omega (arith, low, same)) }

pub least-none : (journals : List (List Entry)) (read : List ℕ) (k : ℕ) → length journals ≤ k → IsSoonest journals read k None → (p : ℕ) (e : Entry) → Not (IsNext journals read p e)
least-none journals read k all was p e next = was p e (let i = in_shards journals read p e next in omega (arith, i)) next

pub past : {A : Type 0} (xs : List A) (k : ℕ) → length xs ≤ k → slice_get xs k ≡ None
past [] k h = refl
past (x ∷ xs) zero h = absurd (omega arith)
past (x ∷ xs) (suc k) h = past xs k (omega arith)

-- a journal that was read to its end
pub soonest-past : (journals : List (List Entry)) (read : List ℕ) (k : ℕ) (s : List Entry) (old : Option (ℕ × ℕ)) → slice_get journals k ≡ Some s → length s ≤ slice_index read k → IsSoonest journals read k old → IsSoonest journals read (k + 1) old
soonest-past journals read k s old here done was = soonest-none journals read k s old was here (past s (slice_index read k) done)

-- The order grows.

pub entries_at-push : (p : ℕ) (order : List EntryAt) (d : EntryAt) → entries_at p (order ++ d ∷ []) ≡ entries_at p order ++ entries_at p (d ∷ [])
entries_at-push p order d =
    ap (map (λ (x : EntryAt). x.entry)) (filter-append (λ (x : EntryAt). x.place == p) order (d ∷ [])) ∙ map-append (λ (x : EntryAt). x.entry) (filter (λ (x : EntryAt). x.place == p) order) (filter (λ (x : EntryAt). x.place == p) (d ∷ []))

at_yes : (p q : ℕ) (e : Entry) → q ≡ p → entries_at p (entry_at q e ∷ []) ≡ e ∷ []
at_yes p q e same = elim (eqb_tells q p) [ inl hit ↦ rw hit.0 refl | inr miss ↦ absurd (miss.1 same) ]

at_no : (p q : ℕ) (e : Entry) → Not (q ≡ p) → entries_at p (entry_at q e ∷ []) ≡ []
at_no p q e apart = elim (eqb_tells q p) [ inl hit ↦ absurd (apart hit.1) | inr miss ↦ rw miss.0 refl ]

above_all : (journals : List (List Entry)) (read : List ℕ) (order : List EntryAt) (last : Option ℕ) (t : ℕ) → IsLastTaken journals read order last → IsAbove last t → (k : ℕ) (d : EntryAt) → slice_get order k ≡ Some d → d.entry.ticket < t
above_all journals read order None t was above k d h = absurd (let e = rw was at h in cc)
above_all journals read order (Some last) t was above k d h = let low = was.0 k d h in omega (arith, low, above)

-- one more entry, the least
pub order-more : (journals : List (List Entry)) (read later : List ℕ) (order now : List EntryAt) (last : Option ℕ) (q : ℕ) (e : Entry) → IsOrderSoFar journals read order last → IsLeast journals read q → IsNext journals read q e → IsAbove last e.ticket
    → later ≡ set read q (slice_index read q + 1) → now ≡ order ++ entry_at q e ∷ [] → IsOrderSoFar journals later now (Some e.ticket)
order-more journals read later order now last q e old least next above reads grown =
    let inside : q < length journals = in_shards journals read q e next in
    let known : q < length read = omega (arith, old.places, inside) in
    let before = above_all journals read order last e.ticket old.ends above in
    rw (reads, grown) (record {
      rise = record { each = each_two-push EntryAt (λ d f. d.entry.ticket < f.entry.ticket) order (entry_at q e) old.rise.each before };
      entries = λ p s h. entries_at-push p order (entry_at q e) ∙ elim (eq_or p q) [
        | inl same ↦ (
            let own : slice_get s (slice_index read p) ≡ Some e = journal_next p s h same in
            ap (λ (es : List Entry). es ++ entries_at p (entry_at q e ∷ [])) (old.entries p s h) ∙ (ap (λ (es : List Entry). take (slice_index read p) s ++ es) (at_yes p q e (sym same))
            ∙ (sym (take_next s (slice_index read p) e own) ∙ ap (λ (k : ℕ). take k s) (ap (λ (k : ℕ). slice_index read k + 1) same ∙ sym (index_same read q p (slice_index read q + 1) (sym same) known)))))
        | inr apart ↦ (
            ap (λ (es : List Entry). entries_at p order ++ es) (at_no p q e (λ (w : q ≡ p). apart (sym w))) ∙ (append-nil (entries_at p order)
            ∙ (old.entries p s h ∙ ap (λ (k : ℕ). take k s) (sym (index_other read q p (slice_index read q + 1) apart)))))
      ];
      inside = λ k d h. elim (get_push order (entry_at q e) d k h) [ inl w ↦ old.inside k d w | inr w ↦ rw w.1 inside ];
      ends = (
        (λ k d h. elim (get_push order (entry_at q e) d k h) [ inl w ↦ (let low = before k d w in omega (arith, low)) | inr w ↦ rw w.1 (omega arith) ]),
        (q, slice_index read q, e, next, refl, grew known, λ p d apart other. least_one p d (still_next p d apart other)),
      );
      places = length-set read q (slice_index read q + 1) ∙ old.places;
    })
  where
    journal_next : (p : ℕ) (s : List Entry) → slice_get journals p ≡ Some s → p ≡ q → slice_get s (slice_index read p) ≡ Some e
    journal_next p s h same = one_next journals read p s (slice_get s (slice_index read p)) e h refl (rw same next)

    grew : q < length read → slice_index read q < slice_index (set read q (slice_index read q + 1)) q
    grew known = let g = index_same read q q (slice_index read q + 1) refl known in omega (arith, g)

    still_next : (p : ℕ) (d : Entry) → Not (p ≡ q) → IsNext journals (set read q (slice_index read q + 1)) p d → IsNext journals read p d
    still_next p d apart other = (other.0, other.1, ap (λ (k : ℕ). slice_get other.0 k) (sym (index_other read q p (slice_index read q + 1) apart)) ∙ other.2)

    least_one : (p : ℕ) (d : Entry) → IsNext journals read p d → e.ticket ≤ d.ticket
    least_one p d other =
        let low = least.least p d other in
        let both : Some least.entry ≡ Some e = one_next journals read q least.next.0 (Some least.entry) e least.next.1 least.next.2 next in
        let same : least.entry ≡ e = cc in
        let tickets : least.entry.ticket ≡ e.ticket = ap (λ (x : Entry). x.ticket) same in
        omega (arith, low, tickets)

-- the next entry isn't above the last one taken
pub order-not : (journals : List (List Entry)) (read : List ℕ) (order : List EntryAt) (last : Option ℕ) (q : ℕ) (e : Entry) → IsOrderSoFar journals read order last → IsNext journals read q e → Not (IsAbove last e.ticket) → Not (JournalsRise journals)
order-not journals read order None q e old next low up = low tt
order-not journals read order (Some t) q e old next low up =
    let w = old.ends.1 in
    elim (eq_or q w.0) [
      | inl same ↦ (
          let one : w.3.0 ≡ next.0 = shard_same w.0 w.3.0 next.0 w.3.1 (rw (← same) next.1) in
          let first : slice_get next.0 w.1 ≡ Some w.2 = ap (λ (x : List Entry). slice_get x w.1) (sym one) ∙ w.3.2 in
          let sooner : w.1 < slice_index read q = rw same w.5 in
          low (let less = (up.rise q next.0 next.1).each w.1 (slice_index read q) w.2 e sooner first next.2 in let is = w.4 in omega (arith, less, is)))
      | inr apart ↦ (
          let upto = w.6 q e apart next in
          elim (cases_order t e.ticket) [
            | inl equal ↦ apart (up.apart q w.0 (slice_index read q) w.1 e w.2 next w.3 (let is = w.4 in omega (arith, equal, is)))
            | inr other ↦ elim other [ inl less ↦ low less | inr more ↦ omega (arith, more, upto) ]
          ])
    ]
  where
    shard_same : (p : ℕ) (r s : List Entry) → slice_get journals p ≡ Some r → slice_get journals p ≡ Some s → r ≡ s
    shard_same p r s h i = let both : Some r ≡ Some s = sym h ∙ i in cc

at_within : (journals : List (List Entry)) (read : List ℕ) (q : ℕ) (s : List Entry) (journal : List Entry) (at : ℕ) → IsLeast journals read q → slice_get journals q ≡ Some s → journal ≡ s → at ≡ slice_index read q → at < length journal
at_within journals read q s journal at least here entries same =
    let entry = one_next journals read q s (slice_get s (slice_index read q)) least.entry here refl least.next in
    let within = slice_get_within s (slice_index read q) least.entry entry in
    let long : length journal ≡ length s = ap length entries in
    omega (arith, within, long, same)

-- what the code reads at the place is the next entry
pub next_at : (journals : List (List Entry)) (read : List ℕ) (q : ℕ) (s : List Entry) (journal : List Entry) (at : ℕ) (e : Entry) → IsLeast journals read q → s ≡ get_or journals q s → journal ≡ s → length read ≡ length journals → at ≡ get_or read q at
    → e ≡ get_or journal at e → IsNext journals read q e
next_at journals read q s journal at e least shard entries places number is =
    let inside : q < length journals = in_shards journals read q least.entry least.next in
    let here : slice_get journals q ≡ Some s = slice_get_read journals (length journals) q s refl inside shard in
    let same : at ≡ slice_index read q = number_read read q at (omega arith) number in
    let below : at < length journal = at_within journals read q s journal at least here entries same in
    let got : slice_get journal at ≡ Some e = slice_get_read journal (length journal) at e refl below is in
    (s, here, rw (← entries, ← same) got)

pub next_within : (journals : List (List Entry)) (read : List ℕ) (q : ℕ) (s : List Entry) (journal : List Entry) (at : ℕ) → IsLeast journals read q → s ≡ get_or journals q s → journal ≡ s → length read ≡ length journals → at ≡ get_or read q at → at < length journal
next_within journals read q s journal at least shard entries places number =
    let inside : q < length journals = in_shards journals read q least.entry least.next in
    at_within journals read q s journal at least (slice_get_read journals (length journals) q s refl inside shard) entries (number_read read q at (omega arith) number)

pub place_within : (journals : List (List Entry)) (read : List ℕ) (q : ℕ) → IsLeast journals read q → length read ≡ length journals → q < length read
place_within journals read q least places = let inside = in_shards journals read q least.entry least.next in omega (arith, inside)

-- At the end.

in_filter_if : {A : Type 0} (f : A → Bool) (x : A) (xs : List A) (y : A) (b : Bool) → f x ≡ b → ((k : ℕ) → slice_get (filter f xs) k ≡ Some y → (m : ℕ) × (slice_get xs m ≡ Some y) × (f y ≡ true))
    → (k : ℕ) → slice_get (cond b (x ∷ filter f xs) (filter f xs)) k ≡ Some y → (m : ℕ) × (slice_get (x ∷ xs) m ≡ Some y) × (f y ≡ true)
in_filter_if f x xs y true pass rest zero h = let same : x ≡ y = cc in (zero, h, rw (← same) pass)
in_filter_if f x xs y true pass rest (suc k) h = let r = rest k h in (suc r.0, r.1, r.2)
in_filter_if f x xs y false pass rest k h = let r = rest k h in (suc r.0, r.1, r.2)

-- an element that passes the test stands in the list
pub in_filter : {A : Type 0} (f : A → Bool) (xs : List A) (k : ℕ) (y : A) → slice_get (filter f xs) k ≡ Some y → (m : ℕ) × (slice_get xs m ≡ Some y) × (f y ≡ true)
in_filter f [] k y h = absurd (cc)
in_filter f (x ∷ xs) k y h = in_filter_if f x xs y (f x) refl (λ j i. in_filter f xs j y i) k h

pub head_to : (A : Type 0) (R : A → A → Type 0) (x : A) (xs : List A) → EachTwo A R (x ∷ xs) → (k : ℕ) (y : A) → slice_get xs k ≡ Some y → R x y
head_to A R x xs all k y h = all zero (suc k) x y (omega arith) refl h

pub tail_two : (A : Type 0) (R : A → A → Type 0) (x : A) (xs : List A) → EachTwo A R (x ∷ xs) → EachTwo A R xs
tail_two A R x xs all j k a b below ha hb = all (suc j) (suc k) a b (omega arith) ha hb

pub cons_two : (A : Type 0) (R : A → A → Type 0) (x : A) (xs : List A) → ((k : ℕ) (y : A) → slice_get xs k ≡ Some y → R x y) → EachTwo A R xs → EachTwo A R (x ∷ xs)
cons_two A R x xs head rest zero zero a b below ha hb = absurd (omega arith)
cons_two A R x xs head rest zero (suc k) a b below ha hb = let same : x ≡ a = cc in rw (← same) (head k b hb)
cons_two A R x xs head rest (suc j) zero a b below ha hb = absurd (omega arith)
cons_two A R x xs head rest (suc j) (suc k) a b below ha hb = rest j k a b (omega arith) ha hb

filter_two_if : (A : Type 0) (R : A → A → Type 0) (f : A → Bool) (x : A) (xs : List A) (b : Bool) → EachTwo A R (x ∷ xs) → EachTwo A R (filter f xs) → EachTwo A R (cond b (x ∷ filter f xs) (filter f xs))
filter_two_if A R f x xs true all rest = cons_two A R x (filter f xs) (λ k y h. let r = in_filter f xs k y h in head_to A R x xs all r.0 y r.1) rest
filter_two_if A R f x xs false all rest = rest

-- those that pass a test stand in the same relation
pub filter_two : (A : Type 0) (R : A → A → Type 0) (f : A → Bool) (xs : List A) → EachTwo A R xs → EachTwo A R (filter f xs)
filter_two A R f [] all = each_two-none A R
filter_two A R f (x ∷ xs) all = filter_two_if A R f x xs (f x) all (filter_two A R f xs (tail_two A R x xs all))

pub mapped : {A B : Type 0} (f : A → B) (xs : List A) (k : ℕ) (y : B) → slice_get (map f xs) k ≡ Some y → (x : A) × (slice_get xs k ≡ Some x) × (f x ≡ y)
mapped f [] k y h = absurd (cc)
mapped f (x ∷ xs) zero y h = (x, refl, (cc))
mapped f (x ∷ xs) (suc k) y h = mapped f xs k y h

entries_rise : (p : ℕ) (order : List EntryAt) → OrderRises order → EntriesRise (entries_at p order)
entries_rise p order up = record {
  each = λ j k d e below hd he.
      let a = mapped (λ (x : EntryAt). x.entry) (filter (λ (x : EntryAt). x.place == p) order) j d hd in
      let b = mapped (λ (x : EntryAt). x.entry) (filter (λ (x : EntryAt). x.place == p) order) k e he in
      let less = filter_two EntryAt (λ x y. x.entry.ticket < y.entry.ticket) (λ (x : EntryAt). x.place == p) order up.each j k a.0 b.0 below a.1 b.1 in
      let low : a.0.entry.ticket ≡ d.ticket = ap (λ (x : Entry). x.ticket) a.2 in
      let high : b.0.entry.ticket ≡ e.ticket = ap (λ (x : Entry). x.ticket) b.2 in
      omega (arith, less, low, high);
}

-- where an entry of a journal stands in the order
pub in_place : (journals : List (List Entry)) (order : List EntryAt) (p k : ℕ) (e : Entry) → IsOrder journals order → IsEntry journals p k e → (m : ℕ) × (d : EntryAt) × (slice_get order m ≡ Some d) × (d.place ≡ p) × (d.entry ≡ e)
in_place journals order p k e is here =
    let there : slice_get (entries_at p order) k ≡ Some e = rw (is.entries p here.0 here.1) here.2 in
    let a = mapped (λ (x : EntryAt). x.entry) (filter (λ (x : EntryAt). x.place == p) order) k e there in
    let b = in_filter (λ (x : EntryAt). x.place == p) order k a.0 a.1 in
    (b.0, a.0, b.1, eqb-true a.0.place p b.2, a.2)

-- two of the order with one ticket are one
pub one_ticket : (order : List EntryAt) (m n : ℕ) (d e : EntryAt) → OrderRises order → slice_get order m ≡ Some d → slice_get order n ≡ Some e → d.entry.ticket ≡ e.entry.ticket → d ≡ e
one_ticket order m n d e up hd he same = elim (cases_order m n) [
  | inl at ↦ (let both : Some d ≡ Some e = sym hd ∙ (ap (slice_get order) at ∙ he) in cc)
  | inr apart ↦ elim apart [
    | inl less ↦ absurd (let l = up.each m n d e less hd he in omega (arith, l, same))
    | inr more ↦ absurd (let l = up.each n m e d more he hd in omega (arith, l, same))
  ]
]

pub order-rises : (journals : List (List Entry)) (order : List EntryAt) → IsOrder journals order → JournalsRise journals
order-rises journals order is = record {
  rise = λ p s h. rw (← is.entries p s h) (entries_rise p order is.rise);
  apart = λ p q j k d e hd he same.
      let a = in_place journals order p j d is hd in
      let b = in_place journals order q k e is he in
      let low : a.1.entry.ticket ≡ d.ticket = ap (λ (x : Entry). x.ticket) a.4 in
      let high : b.1.entry.ticket ≡ e.ticket = ap (λ (x : Entry). x.ticket) b.4 in
      let one : a.1 ≡ b.1 = one_ticket order a.0 b.0 a.1 b.1 is.rise a.2 b.2 (omega (arith, low, high, same)) in
      sym a.3 ∙ (ap (λ (x : EntryAt). x.place) one ∙ b.3);
}

pub get_below : {A : Type 0} (xs : List A) (k : ℕ) → k < length xs → (e : A) × (slice_get xs k ≡ Some e)
get_below [] k below = absurd (omega arith)
get_below (x ∷ xs) zero below = (x, refl)
get_below (x ∷ xs) (suc k) below = get_below xs k (omega arith)

-- where no journal has a next entry, all are read
pub order-done : (journals : List (List Entry)) (read : List ℕ) (order : List EntryAt) (last : Option ℕ) → IsOrderSoFar journals read order last → ((p : ℕ) (e : Entry) → Not (IsNext journals read p e)) → IsOrder journals order
order-done journals read order last far none = record {
  rise = far.rise;
  entries = λ p s h. far.entries p s h ∙ all_taken s (slice_index read p) (long p s h);
  inside = far.inside;
}
  where
    long : (p : ℕ) (s : List Entry) → slice_get journals p ≡ Some s → length s ≤ slice_index read p
    long p s h = elim (cases_order (slice_index read p) (length s)) [
      | inl same ↦ omega (arith, same)
      | inr apart ↦ elim apart [
        | inl less ↦ absurd (let e = get_below s (slice_index read p) less in none p e.0 (s, h, e.1))
        | inr more ↦ omega (arith, more)
      ]
    ]

-- the same, as the code reads it
pub order-step : (journals : List (List Entry)) (read later : List ℕ) (order now : List EntryAt) (last : Option ℕ) (q at : ℕ) (e : Entry) → IsOrderSoFar journals read order last → IsLeast journals read q → IsNext journals read q e → IsAbove last e.ticket
    → at ≡ get_or read q at → later ≡ set read q (at + 1) → now ≡ order ++ entry_at q e ∷ [] → IsOrderSoFar journals later now (Some e.ticket)
order-step journals read later order now last q at e old least next above number reads grown =
    let same : at ≡ slice_index read q = number_read read q at (place_within journals read q least old.places) number in
    order-more journals read later order now last q e old least next above (rw (← same) reads) grown

-- Lists whose elements stand in a relation to all later ones.
use Rattle.std.proofs.Common.{◌≡◌, ◌≢◌, ℕ, ◌+◌, ◌<◌, ◌≤◌, List, [], ◌∷◌, ◌++◌, length, take, map, set, get_or, get_or-set_other, get_or-set_same, refl, sym, ap, ◌∙◌, arith, zero, suc, inl, inr, ◌⊎◌}
use Rattle.std.proofs.lemmas.Option.{slice_get_within, slice_get_read, get_or_from_slice_get, slice_get-get_or}
use Rattle.std.proofs.lemmas.List.{take_more, take_all, map-append}
use Rattle.std.specs.Prelude.{slice_get, slice_index, Some, None, Option}
use Rattle.std.proofs.lemmas.Bool.{cases_order}
use Rattle.er_journal.specs.Entries.{Call}
use Rattle.er_settle.specs.Faults.{EachTwo, CallsRise, IsSooner, Not}
use Rattle.er_event.proofs.Lists.{get_last}
use Rattle.er_settle.specs.Inner.SeatChecks.{IsAbove, IsLast}

-- what stands at a place of a list that grew: what stood there, or the new last element
pub get_push : {A : Type 0} (es : List A) (e x : A) (k : ℕ) → slice_get (es ++ e ∷ []) k ≡ Some x → (slice_get es k ≡ Some x) ⊎ ((k ≡ length es) × (x ≡ e))
get_push [] e x zero h = inr (refl, (cc))
get_push [] e x (suc k) h = inl h
get_push (y ∷ es) e x zero h = inl h
get_push (y ∷ es) e x (suc k) h = elim (get_push es e x k h) [ inl p ↦ inl p | inr q ↦ inr ((omega (arith, q.0)), q.1) ]

-- a list of numbers in which one is set
pub index_same : (read : List ℕ) (q p v : ℕ) → q ≡ p → q < length read → slice_index (set read q v) p ≡ v
index_same read q p v at inside = rw (← at) (get_or-set_same read q v 0 inside)

pub index_other : (read : List ℕ) (q p v : ℕ) → p ≢ q → slice_index (set read q v) p ≡ slice_index read p
index_other read q p v apart = get_or-set_other read q p v 0 apart

pub number_read : (xs : List ℕ) (k x : ℕ) → k < length xs → x ≡ get_or xs k x → x ≡ slice_index xs k
number_read xs k x below is =
    let one : slice_get xs k ≡ Some x = slice_get_read xs (length xs) k x refl below is in
    let two : slice_get xs k ≡ Some (get_or xs k 0) = slice_get-get_or xs k 0 below in
    let both : Some x ≡ Some (get_or xs k 0) = sym one ∙ two in
    cc

pub take_next : {A : Type 0} (xs : List A) (k : ℕ) (x : A) → slice_get xs k ≡ Some x → take (k + 1) xs ≡ take k xs ++ x ∷ []
take_next {A = A} xs k x h = take_more xs k x (slice_get_within xs k x h) ∙ ap (λ (y : A). take k xs ++ y ∷ []) (get_or_from_slice_get xs k x x h)

-- what stands in the front of a list
pub get_front : {A : Type 0} (xs : List A) (k i : ℕ) (x : A) → slice_get (take k xs) i ≡ Some x → (i < k) × (slice_get xs i ≡ Some x)
get_front [] zero i x h = absurd (cc)
get_front [] (suc k) i x h = absurd (cc)
get_front (y ∷ xs) zero i x h = absurd (cc)
get_front (y ∷ xs) (suc k) zero x h = (omega arith, h)
get_front (y ∷ xs) (suc k) (suc i) x h = let r = get_front xs k i x h in (omega (arith, r.0), r.1)

-- a list that grew by one element, to which all earlier ones stand in the relation
pub each_two-push : (A : Type 0) (R : A → A → Type 0) (xs : List A) (e : A) → EachTwo A R xs → ((k : ℕ) (x : A) → slice_get xs k ≡ Some x → R x e) → EachTwo A R (xs ++ e ∷ [])
each_two-push A R xs e all last j k x y below hx hy = elim (get_push xs e y k hy) [
  | inl p ↦ elim (get_push xs e x j hx) [
    | inl q ↦ all j k x y below q p
    | inr q ↦ absurd (omega (arith, q.0, slice_get_within xs k y p, below))
  ]
  | inr p ↦ elim (get_push xs e x j hx) [
    | inl q ↦ rw p.1 (last j x q)
    | inr q ↦ absurd (omega (arith, q.0, p.0, below))
  ]
]

pub each_two-none : (A : Type 0) (R : A → A → Type 0) → EachTwo A R []
each_two-none A R j k x y below hx hy = absurd (cc)

-- a fact on each element so far, and on the next
pub each_next : (A : Type 0) (P : A → Type 0) (xs : List A) (i : ℕ) (x : A) → slice_get xs i ≡ Some x → P x → ((k : ℕ) (y : A) → k < i → slice_get xs k ≡ Some y → P y)
    → (k : ℕ) (y : A) → k < i + 1 → slice_get xs k ≡ Some y → P y
each_next A P xs i x here holds before k y below h = elim (cases_order k i) [
  | inl same ↦ (let both : Some x ≡ Some y = sym here ∙ (ap (slice_get xs) (sym same) ∙ h) in let is : x ≡ y = cc in rw (← is) holds)
  | inr other ↦ elim other [ inl less ↦ before k y less h | inr more ↦ absurd (omega arith) ]
]

-- Tickets of calls.

pub got_before : {A : Type 0} (xs : List A) (e : A) (k : ℕ) (x : A) → slice_get xs k ≡ Some x → slice_get (xs ++ e ∷ []) k ≡ Some x
got_before [] e k x h = absurd (cc)
got_before (y ∷ xs) e zero x h = h
got_before (y ∷ xs) e (suc k) x h = got_before xs e k x h

still : (calls : List Call) (c : Call) (last : ℕ) → ((k : ℕ) × (x : Call) × (slice_get calls k ≡ Some x) × (x.ticket ≡ Some last)) → (k : ℕ) × (x : Call) × (slice_get (calls ++ c ∷ []) k ≡ Some x) × (x.ticket ≡ Some last)
still calls c last w = (w.0, w.1, got_before calls c w.0 w.1 w.2, w.3)

-- every ticket so far is below one that is above the last
below_last : (calls : List Call) (last : Option ℕ) (t : ℕ) → IsLast calls last → IsAbove last t → (k : ℕ) (x : Call) (u : ℕ) → slice_get calls k ≡ Some x → x.ticket ≡ Some u → u < t
below_last calls None t was above k x u h hx = absurd (let e = was k x h in cc)
below_last calls (Some last) t was above k x u h hx = let b = was.1 k x u h hx in omega (arith, b, above)

pub last_skip : (calls : List Call) (c : Call) (last : Option ℕ) → IsLast calls last → c.ticket ≡ None → IsLast (calls ++ c ∷ []) last
last_skip calls c None was bare = λ k x h. elim (get_push calls c x k h) [ inl p ↦ was k x p | inr p ↦ rw p.1 bare ]
last_skip calls c (Some last) was bare = (still calls c last was.0, λ k x t h hx. elim (get_push calls c x k h) [ inl p ↦ was.1 k x t p hx | inr p ↦ absurd (let e = p.1 in cc) ])

pub last_more : (calls : List Call) (c : Call) (last : Option ℕ) (t : ℕ) → IsLast calls last → c.ticket ≡ Some t → IsAbove last t → IsLast (calls ++ c ∷ []) (Some t)
last_more calls c last t was has above = (
  (length calls, c, get_last calls c, has),
  λ k x u h hx. elim (get_push calls c x k h) [
    | inl p ↦ (let b = below_last calls last t was above k x u p hx in omega (arith, b))
    | inr p ↦ (let e = p.1 in let same : Some u ≡ Some t = cc in let is : u ≡ t = cc in omega (arith, is))
  ],
)

-- a call without a ticket
pub rises-skip : (calls : List Call) (i : ℕ) (c : Call) (last : Option ℕ) → CallsRise (take i calls) → IsLast (take i calls) last → slice_get calls i ≡ Some c → c.ticket ≡ None
    → CallsRise (take (i + 1) calls) × IsLast (take (i + 1) calls) last
rises-skip calls i c last up was here bare = rw (take_next calls i c here)
    (record { each = each_two-push Call IsSooner (take i calls) c up.each (λ k x h t u tx tc. absurd (cc)) }, last_skip (take i calls) c last was bare)

-- a call with a ticket above the last one
pub rises-more : (calls : List Call) (i : ℕ) (c : Call) (last : Option ℕ) (t : ℕ) → CallsRise (take i calls) → IsLast (take i calls) last → slice_get calls i ≡ Some c → c.ticket ≡ Some t → IsAbove last t
    → CallsRise (take (i + 1) calls) × IsLast (take (i + 1) calls) (Some t)
rises-more calls i c last t up was here has above = rw (take_next calls i c here) (
  record {
    each = each_two-push Call IsSooner (take i calls) c up.each (λ k x h u v tx tc.
        let b = below_last (take i calls) last t was above k x u h tx in let same : Some v ≡ Some t = cc in let is : v ≡ t = cc in omega (arith, b, is));
  },
  last_more (take i calls) c last t was has above,
)

-- a call with a ticket that isn't
pub rises-not : (calls : List Call) (i : ℕ) (c : Call) (last : Option ℕ) (t : ℕ) → IsLast (take i calls) last → slice_get calls i ≡ Some c → c.ticket ≡ Some t → Not (IsAbove last t) → Not (CallsRise calls)
rises-not calls i c None t was here has above up = above tt
rises-not calls i c (Some last) t was here has above up =
    let front = get_front calls i was.0.0 was.0.1 was.0.2 in
    above (up.each was.0.0 i was.0.1 c front.0 front.1 here last t was.0.3 has)

pub all_taken : {A : Type 0} (xs : List A) (k : ℕ) → length xs ≤ k → take k xs ≡ xs
all_taken [] zero h = refl
all_taken [] (suc k) h = refl
all_taken (x ∷ xs) zero h = absurd (omega arith)
all_taken {A = A} (x ∷ xs) (suc k) h = ap (λ (ys : List A). x ∷ ys) (all_taken xs k (omega arith))

pub length_front : {A : Type 0} (xs : List A) (k : ℕ) (x : A) → slice_get xs k ≡ Some x → length (take k xs) ≡ k
length_front [] k x h = absurd (cc)
length_front (y ∷ xs) zero x h = refl
length_front (y ∷ xs) (suc k) x h = let e = length_front xs k x h in omega (arith, e)

-- one more item is what the function makes of the next one
pub map_one_more : {X Y : Type 0} (f : X → Y) (before after : List Y) (xs : List X) (k : ℕ) (x : X) (y : Y) → k < length xs → x ≡ get_or xs k x
    → before ≡ map f (take k xs) → after ≡ before ++ y ∷ [] → y ≡ f x → after ≡ map f (take (k + 1) xs)
map_one_more {X} {Y} f before after xs k x y within here so_far more is =
    let next : take (k + 1) xs ≡ take k xs ++ x ∷ [] = take_more xs k x within ∙ ap (λ (z : X). take k xs ++ z ∷ []) (sym here) in
    more ∙ ap (λ (front : List Y). front ++ y ∷ []) so_far ∙ ap (λ (z : Y). map f (take k xs) ++ z ∷ []) is
    ∙ sym (ap (map f) next ∙ map-append f (take k xs) (x ∷ []))

pub map_no_more : {X Y : Type 0} (f : X → Y) (whole : List Y) (xs : List X) (k : ℕ) → length xs ≤ k → whole ≡ map f (take k xs) → whole ≡ map f xs
map_no_more f whole xs k past so_far = so_far ∙ ap (map f) (take_all k xs past)

-- one more empty list behind others
empty_appended : {X : Type 0} (lists : List (List X)) → ((k : ℕ) → k < length lists → slice_get lists k ≡ Some []) → (k : ℕ) → k < length lists + 1 → slice_get (lists ++ [] ∷ []) k ≡ Some []
empty_appended [] each zero within = refl
empty_appended [] each (suc k) within = absurd (omega arith)
empty_appended (x ∷ xs) each zero within = each 0 (omega arith)
empty_appended (x ∷ xs) each (suc k) within = empty_appended xs (λ j below. each (suc j) (omega (arith, below))) k (omega (arith, within))

pub one_empty_more : {X : Type 0} (old new : List (List X)) (n : ℕ) → length old ≡ n → ((k : ℕ) → k < n → slice_get old k ≡ Some []) → new ≡ old ++ [] ∷ []
    → (k : ℕ) → k < n + 1 → slice_get new k ≡ Some []
one_empty_more old new n count each is k within =
    rw is (empty_appended old (λ j below. each j (omega (arith, below, count))) k (omega (arith, within, count)))

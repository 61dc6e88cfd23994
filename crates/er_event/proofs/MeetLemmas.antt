-- The meet of two rising lists, as a walk along both takes it: at each step the lower of the two locks in front is left behind.
use Rattle.std.proofs.Common.{◌≡◌, ℕ, zero, suc, ◌+◌, ◌<◌, ◌≤◌, Bool, true, false, ◌||◌, ◌==◌, List, [], ◌∷◌, ◌++◌, filter, length, drop, get_or, set, take, ◌⊎◌, refl, sym, ap, subst, ◌∙◌, arith, inl, inr}
use mir.Val.{bool_byte}
use Rattle.std.proofs.lemmas.Bool.{or_left, or_right, cases_order, cases_lt, lt-ltb, le-ltb, eq-eqb, ne_eqb, eqb-true, eqb-false}
use Rattle.std.proofs.lemmas.List.{append_assoc, drop_all, drop_more, take-set, take_more_set}
use Rattle.std.proofs.lemmas.List.Kept.{IsStrictlyIncreasing-filter}
use Rattle.std.specs.List.Sorted.{IsStrictlyIncreasing}
use Rattle.std.specs.Ordering.{is_le, nat_cmp}
use Rattle.er_event.proofs.Bools.{itself}
use Rattle.er_event.proofs.LocksetLemmas.{first_below}
use Rattle.er_event.specs.Lockset.{has, IsBelow, IsRising, meet}

le_told : (x y : ℕ) → x ≤ y → is_le (nat_cmp x y) ≡ true
le_told x y order = elim (cases_lt x y) [
  | inl less ↦ rw (lt-ltb x y less) refl
  | inr more ↦ rw (le-ltb x y more, eq-eqb x y (omega arith)) refl
]

gt_told : (x y : ℕ) → y < x → is_le (nat_cmp x y) ≡ false
gt_told x y more = rw (le-ltb x y (omega arith), ne_eqb x y (λ same. omega arith)) refl

-- what is left of a rising list rises
rising-drop : (i : ℕ) (xs : List ℕ) → IsRising xs → IsRising (drop i xs)
rising-drop zero xs up = up
rising-drop (suc i) [] up = tt
rising-drop (suc i) (x ∷ xs) up = rising-drop i xs up.1

filter_agree : (p q : ℕ → Bool) (xs : List ℕ) → ((l : ℕ) → has xs l ≡ true → p l ≡ q l) → filter p xs ≡ filter q xs
filter_agree p q [] same = refl
filter_agree p q (x ∷ xs) same =
    rw (same x (or_left (x == x) (has xs x) (itself x)), filter_agree p q xs (λ l member. same l (or_right (x == l) (has xs l) member))) refl

untrue : (b : Bool) → (b ≡ true → ⊥) → b ≡ false
untrue true refuted = absurd (refuted refl)
untrue false refuted = refl

meet_less : (x y : ℕ) (xs ys : List ℕ) → IsBelow y ys → x < y → meet (x ∷ xs) (y ∷ ys) ≡ meet xs (y ∷ ys)
unfolding meet
meet_less x y xs ys above less = rw (untrue (y == x || has ys x) (first_below x y xs ys above less)) refl

meet_passed : (y : ℕ) (xs ys : List ℕ) → IsBelow y xs → meet xs (y ∷ ys) ≡ meet xs ys
unfolding meet
meet_passed y xs ys above = filter_agree (has (y ∷ ys)) (has ys) xs (λ l member. let more : y < l = above l member in rw (ne_eqb y l (λ same. omega arith)) refl)

meet_same : (x : ℕ) (xs ys : List ℕ) → IsBelow x xs → meet (x ∷ xs) (x ∷ ys) ≡ x ∷ meet xs ys
unfolding meet
meet_same x xs ys above = rw (itself x) (ap (λ zs. x ∷ zs) (filter_agree (has (x ∷ ys)) (has ys) xs (λ l member. let more : x < l = above l member in rw (ne_eqb x l (λ same. omega arith)) refl)))

below_front : (x y : ℕ) (xs : List ℕ) → IsBelow x xs → y < x → IsBelow y (x ∷ xs)
below_front x y xs above less k member = elim (cases_lt y k) [
  | inl under ↦ under
  | inr over ↦ absurd (first_below k x xs xs above (omega arith) member)
]

plus_zero : (n : ℕ) → n + 0 ≡ n
plus_zero n = omega arith

-- the same at places of two lists
front_below : (i : ℕ) (xs : List ℕ) → IsRising xs → i < length xs → IsBelow (get_or xs i 0) (drop (i + 1) xs)
front_below i xs up within = (subst IsRising (drop_more xs i 0 within) (rising-drop i xs up)).0

module _ (xs ys : List ℕ) (i j : ℕ) (low : IsRising xs) (high : IsRising ys) (within : i < length xs) (inside : j < length ys) where
  less_step : get_or xs i 0 < get_or ys j 0 → meet (drop (i + 1) xs) (drop j ys) ≡ meet (drop i xs) (drop j ys)
  less_step less = rw (drop_more xs i 0 within, drop_more ys j 0 inside) (sym (meet_less (get_or xs i 0) (get_or ys j 0) (drop (i + 1) xs) (drop (j + 1) ys) (front_below j ys high inside) less))

  more_step : get_or ys j 0 < get_or xs i 0 → meet (drop i xs) (drop (j + 1) ys) ≡ meet (drop i xs) (drop j ys)
  more_step more = rw (drop_more xs i 0 within, drop_more ys j 0 inside)
      (sym (meet_passed (get_or ys j 0) (get_or xs i 0 ∷ drop (i + 1) xs) (drop (j + 1) ys) (below_front (get_or xs i 0) (get_or ys j 0) (drop (i + 1) xs) (front_below i xs low within) more)))

  same_step : get_or xs i 0 ≡ get_or ys j 0 → get_or xs i 0 ∷ meet (drop (i + 1) xs) (drop (j + 1) ys) ≡ meet (drop i xs) (drop j ys)
  same_step same = rw (drop_more xs i 0 within, drop_more ys j 0 inside, ← same) (sym (meet_same (get_or xs i 0) (drop (i + 1) xs) (drop (j + 1) ys) (front_below i xs low within)))

  abbrev passed : ℕ → ℕ → ℕ
  passed x y = bool_byte (is_le (nat_cmp x y))

  module _ (x y : ℕ) (mine : x ≡ get_or xs i 0) (theirs : y ≡ get_or ys j 0) where
    -- a step that keeps no lock
    pass_step : (x ≡ y → ⊥) → meet (drop (i + passed x y) xs) (drop (j + passed y x) ys) ≡ meet (drop i xs) (drop j ys)
    pass_step other = elim (cases_order x y) [
      | inl same ↦ absurd (other same)
      | inr (inl less) ↦ rw (le_told x y (omega arith), gt_told y x less) (rw (plus_zero j) (less_step (omega (arith, mine, theirs))))
      | inr (inr more) ↦ rw (gt_told x y more, le_told y x (omega arith)) (rw (plus_zero i) (more_step (omega (arith, mine, theirs))))
    ]

    -- and one that keeps the lock in front of both
    keep_step : (kept : List ℕ) → x ≡ y → (kept ++ x ∷ []) ++ meet (drop (i + passed x y) xs) (drop (j + passed y x) ys) ≡ kept ++ meet (drop i xs) (drop j ys)
    keep_step kept same = rw (le_told x y (omega (arith, same)), le_told y x (omega (arith, same)), mine)
        (append_assoc kept (get_or xs i 0 ∷ []) (meet (drop (i + 1) xs) (drop (j + 1) ys)) ∙ ap (λ zs. kept ++ zs) (same_step (omega (arith, mine, theirs, same))))

    -- either of the two, where the lock is written behind those that are kept
    pub one_step : (slots : List ℕ) (n : ℕ) → n + 1 ≤ length slots → (b : Bool) → (x == y) ≡ b →
        take (n + bool_byte b) (set slots n x) ++ meet (drop (i + passed x y) xs) (drop (j + passed y x) ys) ≡ take n slots ++ meet (drop i xs) (drop j ys)
    one_step slots n room true same = rw (take_more_set slots n x (omega arith)) (keep_step (take n slots) (eqb-true x y same))
    one_step slots n room false other = rw (plus_zero n, take-set slots n x) (ap (λ zs. take n slots ++ zs) (pass_step (eqb-false x y other)))

-- no more are kept than are left behind
pub few_step : (x y n i : ℕ) (b : Bool) → (x == y) ≡ b → n ≤ i → n + bool_byte b ≤ i + bool_byte (is_le (nat_cmp x y))
few_step x y n i true same few = rw (le_told x y (omega (arith, eqb-true x y same))) (omega arith)
few_step x y n i false other few = omega arith

pub fewer_step : (x y n j : ℕ) (b : Bool) → (x == y) ≡ b → n ≤ j → n + bool_byte b ≤ j + bool_byte (is_le (nat_cmp y x))
fewer_step x y n j true same few = rw (le_told y x (omega (arith, eqb-true x y same))) (omega arith)
fewer_step x y n j false other few = omega arith

-- nothing is left of one of the lists
pub meet_end : (xs ys : List ℕ) (i j : ℕ) → (length xs ≤ i) ⊎ (length ys ≤ j) → meet (drop i xs) (drop j ys) ≡ []
unfolding meet
meet_end xs ys i j (inl over) = rw (drop_all i xs over) refl
meet_end xs ys i j (inr over) = rw (drop_all j ys over) (none_kept (drop i xs))
  where
    none_kept : (zs : List ℕ) → filter (has []) zs ≡ []
    none_kept [] = refl
    none_kept (z ∷ zs) = none_kept zs

pub increasing-meet : (xs ys : List ℕ) → IsStrictlyIncreasing xs → IsStrictlyIncreasing (meet xs ys)
unfolding meet
increasing-meet xs ys rises = IsStrictlyIncreasing-filter (has ys) xs rises

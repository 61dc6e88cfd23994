-- Pairs list each lock of a set once and no other lock exactly where they list each of its locks once and there are as many of them.
use Rattle.std.proofs.Common.{◌≡◌, ◌+◌, ◌==◌, ℕ, suc, cond, not, Bool, true, false, List, [], ◌∷◌, length, refl, sym, ◌∙◌, arith, ⊎_elim}
use Rattle.std.specs.Prelude.{All, filter}
use Rattle.std.proofs.lemmas.Bool.{eqb-true, eqb-false, eq-eqb, ne_eqb, or_left, or_right, or_parts, or_cases, false_from_ne_true}
use Rattle.std.proofs.lemmas.List.Elements.{All-nil, All-cons, All-head, All-tail}
use Rattle.std.proofs.lemmas.List.Sums.{sum_by-cons}
use Rattle.er_event.specs.Lockset.{has, IsBelow, IsRising}
use Rattle.er_model.specs.Explanations.{times_listed}
use Rattle.er_check.specs.Claims.{ListsOnce}

-- the pairs of other locks
abbrev others : ℕ → List (ℕ × ℕ) → List (ℕ × ℕ)
others l pairs = filter (λ pair. not (pair.0 == l)) pairs

times-next : (x : ℕ × ℕ) (xs : List (ℕ × ℕ)) (l : ℕ) → times_listed (x ∷ xs) l ≡ cond (x.0 == l) 1 0 + times_listed xs l
times-next x xs l = sum_by-cons (λ y. cond (y.0 == l) 1 0) x xs

length-others_by : (l : ℕ) (x : ℕ × ℕ) (xs : List (ℕ × ℕ)) (b : Bool) → (x.0 == l) ≡ b → length (others l xs) + times_listed xs l ≡ length xs →
    length (cond (not b) (x ∷ others l xs) (others l xs)) + (cond b 1 0 + times_listed xs l) ≡ suc (length xs)
length-others_by l x xs true same rest = omega (arith, rest)
length-others_by l x xs false other rest = omega (arith, rest)

length-others : (l : ℕ) (pairs : List (ℕ × ℕ)) → length (others l pairs) + times_listed pairs l ≡ length pairs
length-others l [] = refl
length-others l (x ∷ xs) = rw (times-next x xs l) (length-others_by l x xs (x.0 == l) refl (length-others l xs))

times-others_by : (l m : ℕ) (x : ℕ × ℕ) (xs : List (ℕ × ℕ)) (b : Bool) → (x.0 == l) ≡ b → (l ≡ m → ⊥) → times_listed (others l xs) m ≡ times_listed xs m →
    times_listed (cond (not b) (x ∷ others l xs) (others l xs)) m ≡ cond (x.0 == m) 1 0 + times_listed xs m
times-others_by l m x xs true same differ rest =
    let is : x.0 ≡ l = eqb-true x.0 l same in
    rw (ne_eqb x.0 m (λ e. differ (sym is ∙ e))) (omega (arith, rest))
times-others_by l m x xs false other differ rest = rw (times-next x (others l xs) m, rest) refl

times-others : (l m : ℕ) (pairs : List (ℕ × ℕ)) → (l ≡ m → ⊥) → times_listed (others l pairs) m ≡ times_listed pairs m
times-others l m [] differ = refl
times-others l m (x ∷ xs) differ = rw (times-next x xs m) (times-others_by l m x xs (x.0 == l) refl differ (times-others l m xs differ))

times-own_by : (l : ℕ) (x : ℕ × ℕ) (xs : List (ℕ × ℕ)) (b : Bool) → (x.0 == l) ≡ b → times_listed (others l xs) l ≡ 0 → times_listed (cond (not b) (x ∷ others l xs) (others l xs)) l ≡ 0
times-own_by l x xs true same rest = rest
times-own_by l x xs false other rest = rw (times-next x (others l xs) l, other) (omega (arith, rest))

times-own : (l : ℕ) (pairs : List (ℕ × ℕ)) → times_listed (others l pairs) l ≡ 0
times-own l [] = refl
times-own l (x ∷ xs) = times-own_by l x xs (x.0 == l) refl (times-own l xs)

-- the first lock of a rising list is none of the others
apart : (x m : ℕ) (xs : List ℕ) → IsBelow x xs → has xs m ≡ true → x ≡ m → ⊥
apart x m xs below member same = omega (arith, below m member, same)

absent : (x : ℕ) (xs : List ℕ) → IsBelow x xs → has xs x ≡ false
absent x xs below = false_from_ne_true (has xs x) (λ member. apart x x xs below member refl)

-- as many pairs as locks, each of which is listed once: no other lock is listed
none-other : (locks : List ℕ) (pairs : List (ℕ × ℕ)) → IsRising locks → length pairs ≡ length locks → ((l : ℕ) → has locks l ≡ true → times_listed pairs l ≡ 1) →
    (l : ℕ) → has locks l ≡ false → times_listed pairs l ≡ 0
none-other [] [] up many once l none = refl
none-other [] (p ∷ ps) up many once l none = absurd (omega (arith, many))
none-other (x ∷ xs) pairs up many once l none =
    let parts = or_parts (x == l) (has xs l) none in
    let here : times_listed pairs x ≡ 1 = once x (or_left (x == x) (has xs x) (eq-eqb x x refl)) in
    let rest = none-other xs (others x pairs) up.1 (omega (arith, length-others x pairs, here, many))
    (λ m member. times-others x m pairs (apart x m xs up.0 member) ∙ once m (or_right (x == m) (has xs m) member)) l parts.1 in
    sym (times-others x l pairs (eqb-false x l parts.0)) ∙ rest

-- each lock once and no other: as many pairs as locks
as-many : (locks : List ℕ) (pairs : List (ℕ × ℕ)) → IsRising locks → ListsOnce pairs locks → length pairs ≡ length locks
as-many [] [] up once = refl
as-many [] (p ∷ ps) up once =
    let none : cond true 1 0 + times_listed ps p.0 ≡ 0 = rw (times-next p ps p.0, eq-eqb p.0 p.0 refl) at (once p.0) in
    absurd (omega (arith, none))
as-many (x ∷ xs) pairs up once =
    let here : times_listed pairs x ≡ 1 = rw (eq-eqb x x refl) at (once x) in
    let rest = as-many xs (others x pairs) up.1 (λ m. left m (x == m) refl) in
    omega (arith, length-others x pairs, here, rest)
  where
    left : (m : ℕ) (b : Bool) → (x == m) ≡ b → times_listed (others x pairs) m ≡ cond (has xs m) 1 0
    left m true same = let is : x ≡ m = eqb-true x m same in rw (← is) (times-own x pairs ∙ rw (absent x xs up.0) refl)
    left m false other = times-others x m pairs (eqb-false x m other) ∙ (rw other at (once m))

once-by : (locks : List ℕ) (pairs : List (ℕ × ℕ)) (l : ℕ) (b : Bool) → has locks l ≡ b → IsRising locks → length pairs ≡ length locks →
    ((k : ℕ) → has locks k ≡ true → times_listed pairs k ≡ 1) → times_listed pairs l ≡ cond b 1 0
once-by locks pairs l true member up many once = once l member
once-by locks pairs l false none up many once = none-other locks pairs up many once l none

-- what holds of each lock of a list
all-has : (P : ℕ → Type 0) (locks : List ℕ) → All P locks → (l : ℕ) → has locks l ≡ true → P l
all-has P [] all l member = cc
all-has P (x ∷ xs) all l member =
    ⊎_elim (λ here. rw (← eqb-true x l here) (All-head P x xs all)) (λ later. all-has P xs (All-tail P x xs all) l later) (or_cases (x == l) (has xs l) member)

has-all : (P : ℕ → Type 0) (locks : List ℕ) → ((l : ℕ) → has locks l ≡ true → P l) → All P locks
has-all P [] each = All-nil P
has-all P (x ∷ xs) each =
    All-cons P x xs (each x (or_left (x == x) (has xs x) (eq-eqb x x refl))) (has-all P xs (λ l member. each l (or_right (x == l) (has xs l) member)))

pub once-from : (locks : List ℕ) (pairs : List (ℕ × ℕ)) → IsRising locks → length pairs ≡ length locks → All (λ l. times_listed pairs l ≡ 1) locks → ListsOnce pairs locks
once-from locks pairs up many once l = once-by locks pairs l (has locks l) refl up many (all-has (λ k. times_listed pairs k ≡ 1) locks once)

pub once-each : (locks : List ℕ) (pairs : List (ℕ × ℕ)) → IsRising locks → ListsOnce pairs locks → All (λ l. times_listed pairs l ≡ 1) locks
once-each locks pairs up once = has-all (λ k. times_listed pairs k ≡ 1) locks (λ l member. once l ∙ rw member refl)

pub once-many : (locks : List ℕ) (pairs : List (ℕ × ℕ)) → IsRising locks → ListsOnce pairs locks → length pairs ≡ length locks
once-many = as-many

-- What searches among the positions below a point find.
use Rattle.std.proofs.Common.{◌≡◌, ℕ, zero, suc, ◌<◌, ◌≤◌, Bool, true, false, Option, Some, None, refl, arith, ⊎_elim, inl, inr, ◌⊎◌}
use Rattle.std.proofs.lemmas.Bool.{both_ways}
use Rattle.er_model.specs.Search.{least_below, greatest_below}
use Rattle.er_model.proofs.Search.{below_or_at, least_below-None, least_below-first}

-- what the greatest search finds
greatest_cases : (n i : ℕ) (p : ℕ → Bool) (b : Bool) → p n ≡ b → greatest_below (suc n) p ≡ Some i →
    (greatest_below n p ≡ Some i → (i < n) × (p i ≡ true)) → (i < suc n) × (p i ≡ true)
unfolding greatest_below
greatest_cases n i p true passes e rest =
    let is : Some n ≡ Some i = rw passes at e in
    let same : n ≡ i = cc in
    (omega (arith, same), rw (← same) passes)
greatest_cases n i p false fails e rest = let found = rest (rw fails at e) in (omega (arith, found.0), found.1)

pub greatest-Some : (n i : ℕ) (p : ℕ → Bool) → greatest_below n p ≡ Some i → (i < n) × (p i ≡ true)
unfolding greatest_below
greatest-Some zero i p e = cc
greatest-Some (suc n) i p e = greatest_cases n i p (p n) refl e (greatest-Some n i p)

-- the least search finds something where something passes
least_there : (n k : ℕ) (p : ℕ → Bool) → k < n → p k ≡ true → (o : Option ℕ) → least_below n p ≡ o → (i : ℕ) × (least_below n p ≡ Some i) × (i ≤ k)
least_there n k p below passes None none = absurd (both_ways (p k) (least_below-None n p none k below) passes)
least_there n k p below passes (Some i) is = (i, is, not_above (cases_order i k))
  where
    open_first : k < i → p k ≡ false
    open_first low = least_below-first n p i is k low

    cases_order : (i k : ℕ) → (i ≤ k) ⊎ (k < i)
    cases_order i k = grind arith

    not_above : (i ≤ k) ⊎ (k < i) → i ≤ k
    not_above (inl low) = low
    not_above (inr high) = absurd (both_ways (p k) (open_first high) passes)

pub least-there : (n k : ℕ) (p : ℕ → Bool) → k < n → p k ≡ true → (i : ℕ) × (least_below n p ≡ Some i) × (i ≤ k)
least-there n k p below passes = least_there n k p below passes (least_below n p) refl

-- and where nothing passes
pub greatest-none : (n : ℕ) (p : ℕ → Bool) → ((k : ℕ) → k < n → p k ≡ false) → greatest_below n p ≡ None
unfolding greatest_below
greatest-none zero p h = refl
greatest-none (suc n) p h = rw (h n (omega arith)) (greatest-none n p (λ k l. h k (omega arith)))

-- of what passes nothing is greater than what is found
found_last : (n i j : ℕ) (p : ℕ → Bool) (b : Bool) → p n ≡ b → greatest_below (suc n) p ≡ Some j → i < suc n → p i ≡ true → (greatest_below n p ≡ Some j → i < n → i ≤ j) → i ≤ j
unfolding greatest_below
found_last n i j p true passes e below here rest =
    let is : Some n ≡ Some j = rw passes at e in
    let same : n ≡ j = cc in
    omega (arith, same)
found_last n i j p false fails e below here rest =
    ⊎_elim (λ low. rest (rw fails at e) low) (λ same. absurd (both_ways (p n) fails (rw same at here))) (below_or_at i n below)

pub greatest-last : (n i j : ℕ) (p : ℕ → Bool) → greatest_below n p ≡ Some j → i < n → p i ≡ true → i ≤ j
unfolding greatest_below
greatest-last zero i j p e below here = absurd (omega arith)
greatest-last (suc n) i j p e below here = found_last n i j p (p n) refl e below here (λ rest low. greatest-last n i j p rest low here)

-- tests that agree below the point find the same
pub greatest-agree : (n : ℕ) (p q : ℕ → Bool) → ((k : ℕ) → k < n → p k ≡ q k) → greatest_below n p ≡ greatest_below n q
unfolding greatest_below
greatest-agree zero p q same = refl
greatest-agree (suc n) p q same = rw (same n (omega arith), greatest-agree n p q (λ k below. same k (omega arith))) refl

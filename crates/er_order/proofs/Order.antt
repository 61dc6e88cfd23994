-- Order is by chains of steps that lead on.
use Rattle.std.proofs.Common.{◌≡◌, ℕ, zero, suc, ◌<◌, ◌≤◌, Bool, true, false, ◌||◌, cond, ◌==◌, nat_lt, List, [], ◌∷◌, refl, arith, ⊎_elim, inl, inr, ◌⊎◌}
use Rattle.std.proofs.lemmas.Bool.{lt-ltb, ltb-true, eq-eqb, eqb-true, or_left, or_right, or_cases, and_parts, and_from}
use Rattle.std.specs.List.{list_any}
use Rattle.er_event.specs.Lockset.{has}
use Rattle.er_model.proofs.Search.{below_or_at}
use Rattle.er_order.specs.Order.{Acts, leads_from, reached, happens_before}

-- one of the list passes a test
pub any-found : (p : ℕ → Bool) (xs : List ℕ) → list_any p xs ≡ true → (i : ℕ) × (has xs i ≡ true) × (p i ≡ true)
any-found p [] e = cc
any-found p (x ∷ xs) e =
    ⊎_elim
    (λ here. (x, or_left (x == x) (has xs x) (eq-eqb x x refl), here))
    (λ there. let found = any-found p xs there in (found.0, or_right (x == found.0) (has xs found.0) found.1, found.2))
    (or_cases (p x) (list_any p xs) e)

pub any-from : (p : ℕ → Bool) (xs : List ℕ) (i : ℕ) → has xs i ≡ true → p i ≡ true → list_any p xs ≡ true
any-from p [] i member e = cc
any-from p (x ∷ xs) i member e =
    ⊎_elim
    (λ here. let same : x ≡ i = eqb-true x i here in or_left (p x) (list_any p xs) (rw same e))
    (λ there. or_right (p x) (list_any p xs) (any-from p xs i there e))
    (or_cases (x == i) (has xs i) member)

-- the list with one more in front or not
pub next-cases : (b : Bool) (n i : ℕ) (xs : List ℕ) → has (cond b (n ∷ xs) xs) i ≡ true → ((n ≡ i) × (b ≡ true)) ⊎ (has xs i ≡ true)
next-cases true n i xs e = ⊎_elim (λ here. inl (eqb-true n i here, refl)) (λ there. inr there) (or_cases (n == i) (has xs i) e)
next-cases false n i xs e = inr e

next-kept : (b : Bool) (n i : ℕ) (xs : List ℕ) → has xs i ≡ true → has (cond b (n ∷ xs) xs) i ≡ true
next-kept true n i xs e = or_right (n == i) (has xs i) e
next-kept false n i xs e = e

next-here : (b : Bool) (n : ℕ) (xs : List ℕ) → b ≡ true → has (cond b (n ∷ xs) xs) n ≡ true
next-here true n xs e = or_left (n == n) (has xs n) (eq-eqb n n refl)
next-here false n xs e = cc

module _ (acts : Acts) (j : ℕ) where
  -- the test of position n
  abbrev joins_chain : ℕ → Bool
  joins_chain n = n == j || list_any (λ i. leads_from (acts i) (acts n)) (reached acts j n)

  reached-cases : (n i : ℕ) → has (reached acts j (suc n)) i ≡ true → ((n ≡ i) × (joins_chain n ≡ true)) ⊎ (has (reached acts j n) i ≡ true)
  unfolding reached
  reached-cases n i e = next-cases (joins_chain n) n i (reached acts j n) e

  pub reached-below : (n i : ℕ) → has (reached acts j n) i ≡ true → i < n
  unfolding reached
  reached-below zero i e = cc
  reached-below (suc n) i e =
      ⊎_elim (λ here. omega (arith, here.0)) (λ there. let low = reached-below n i there in omega arith) (reached-cases n i e)

  reached-low : (n i : ℕ) → has (reached acts j n) i ≡ true → j ≤ i
  unfolding reached
  reached-low zero i e = cc
  reached-low (suc n) i e =
      ⊎_elim
      (λ here.
      ⊎_elim
      (λ own. let same : n ≡ j = eqb-true n j own in omega (arith, here.0, same))
      (λ led. let found = any-found (λ m. leads_from (acts m) (acts n)) (reached acts j n) led in
      let low = reached-low n found.0 found.1 in
      let high = reached-below n found.0 found.1 in
      omega (arith, here.0))
      (or_cases (n == j) (list_any (λ m. leads_from (acts m) (acts n)) (reached acts j n)) here.1))
      (λ there. reached-low n i there)
      (reached-cases n i e)

  -- a position stays reached, and was reached when it was taken
  reached-more : (n i : ℕ) → has (reached acts j (suc i)) i ≡ true → i < n → has (reached acts j n) i ≡ true
  unfolding reached
  reached-more zero i e below = absurd (omega arith)
  reached-more (suc n) i e below =
      ⊎_elim
      (λ before. next-kept (joins_chain n) n i (reached acts j n) (reached-more n i e before))
      (λ same. rw same (rw same at e))
      (below_or_at i n below)

  reached-then : (n i : ℕ) → has (reached acts j n) i ≡ true → has (reached acts j (suc i)) i ≡ true
  unfolding reached
  reached-then zero i e = cc
  reached-then (suc n) i e =
      ⊎_elim (λ here. rw here.0 at e) (λ there. reached-then n i there) (reached-cases n i e)

  pub reached-self : has (reached acts j (suc j)) j ≡ true
  unfolding reached
  reached-self = next-here (joins_chain j) j (reached acts j j) (or_left (j == j) (list_any (λ i. leads_from (acts i) (acts j)) (reached acts j j)) (eq-eqb j j refl))

  pub reached-next : (m k : ℕ) → has (reached acts j (suc m)) m ≡ true → m < k → leads_from (acts m) (acts k) ≡ true → has (reached acts j (suc k)) k ≡ true
  unfolding reached
  reached-next m k e below led =
      next-here (joins_chain k) k (reached acts j k)
      (or_right (k == j) (list_any (λ i. leads_from (acts i) (acts k)) (reached acts j k))
      (any-from (λ i. leads_from (acts i) (acts k)) (reached acts j k) m (reached-more k m e below) led))

  pub reached-last : (k : ℕ) → j < k → has (reached acts j (suc k)) k ≡ true →
      (m : ℕ) × (m < k) × (has (reached acts j (suc m)) m ≡ true) × (leads_from (acts m) (acts k) ≡ true)
  reached-last k above e =
      ⊎_elim
      (λ here.
      ⊎_elim
      (λ own. let same : k ≡ j = eqb-true k j own in absurd (omega (arith, same)))
      (λ led. let found = any-found (λ m. leads_from (acts m) (acts k)) (reached acts j k) led in
      (found.0, reached-below k found.0 found.1, reached-then k found.0 found.1, found.2))
      (or_cases (k == j) (list_any (λ m. leads_from (acts m) (acts k)) (reached acts j k)) here.1))
      (λ there. let low = reached-below k k there in absurd (omega arith))
      (reached-cases k k e)

  pub reached-from : (k : ℕ) → has (reached acts j (suc k)) k ≡ true → j ≤ k
  reached-from k e = reached-low (suc k) k e

  -- order, by what is reached
  pub happens_before-from : (k : ℕ) → j < k → has (reached acts j (suc k)) k ≡ true → happens_before acts j k ≡ true
  unfolding happens_before
  happens_before-from k above e = and_from (nat_lt j k) (has (reached acts j (suc k)) k) (lt-ltb j k above) e

  pub happens_before-parts : (k : ℕ) → happens_before acts j k ≡ true → (j < k) × (has (reached acts j (suc k)) k ≡ true)
  unfolding happens_before
  happens_before-parts k e = let parts = and_parts (nat_lt j k) (has (reached acts j (suc k)) k) e in (ltb-true j k parts.0, parts.1)

  -- what is reached is j or comes after it
  pub reached-or : (m : ℕ) → has (reached acts j (suc m)) m ≡ true → (m ≡ j) ⊎ (happens_before acts j m ≡ true)
  reached-or m e =
      ⊎_elim (λ low. inr (happens_before-from m low e)) (λ same. inl (rw same)) (below_or_at j m (let low = reached-from m e in omega arith))

-- the laws
pub happens_before-leads : (acts : Acts) (j k : ℕ) → j < k → leads_from (acts j) (acts k) ≡ true → happens_before acts j k ≡ true
happens_before-leads acts j k below led = happens_before-from acts j k below (reached-next acts j j k (reached-self acts j) below led)

pub happens_before-on : (acts : Acts) (i j k : ℕ) → happens_before acts i j ≡ true → j < k → leads_from (acts j) (acts k) ≡ true → happens_before acts i k ≡ true
happens_before-on acts i j k first below led =
    let parts = happens_before-parts acts i j first in
    happens_before-from acts i k (omega (arith, parts.0)) (reached-next acts i j k parts.1 below led)

pub happens_before-below : (acts : Acts) (j k : ℕ) → happens_before acts j k ≡ true → j < k
happens_before-below acts j k e = (happens_before-parts acts j k e).0

-- the last link of the chain
pub happens_before-last : (acts : Acts) (j k : ℕ) → happens_before acts j k ≡ true →
    (m : ℕ) × (m < k) × ((m ≡ j) ⊎ (happens_before acts j m ≡ true)) × (leads_from (acts m) (acts k) ≡ true)
happens_before-last acts j k e =
    let parts = happens_before-parts acts j k e in
    let found = reached-last acts j k parts.0 parts.1 in
    (found.0, found.1, reached-or acts j found.0 found.2, found.3)

chain_within : (acts : Acts) (i j n k : ℕ) → k < n → happens_before acts i j ≡ true → happens_before acts j k ≡ true → happens_before acts i k ≡ true
chain_within acts i j zero k below first second = absurd (omega arith)
chain_within acts i j (suc n) k below first second =
    let found = happens_before-last acts j k second in
    ⊎_elim
    (λ same. happens_before-on acts i j k first (happens_before-below acts j k second) (rw same at found.3))
    (λ later. happens_before-on acts i found.0 k (chain_within acts i j n found.0 (omega (arith, found.1)) first later) found.1 found.3)
    found.2

pub happens_before-chain : (acts : Acts) (i j k : ℕ) → happens_before acts i j ≡ true → happens_before acts j k ≡ true → happens_before acts i k ≡ true
happens_before-chain acts i j k first second = chain_within acts i j (suc k) k (omega arith) first second

module _ (acts : Acts) (p : ℕ → ℕ → Bool) (one : (j k : ℕ) → j < k → leads_from (acts j) (acts k) ≡ true → p j k ≡ true)
    (more : (i j k : ℕ) → p i j ≡ true → j < k → leads_from (acts j) (acts k) ≡ true → p i k ≡ true) where
  least_within : (n j k : ℕ) → k < n → happens_before acts j k ≡ true → p j k ≡ true
  least_within zero j k below e = absurd (omega arith)
  least_within (suc n) j k below e =
      let found = happens_before-last acts j k e in
      ⊎_elim
      (λ same. one j k (happens_before-below acts j k e) (rw same at found.3))
      (λ later. more j found.0 k (least_within n j found.0 (omega (arith, found.1)) later) found.1 found.3)
      found.2

  pub happens_before-least : (j k : ℕ) → happens_before acts j k ≡ true → p j k ≡ true
  happens_before-least j k e = least_within (suc k) j k (omega arith) e

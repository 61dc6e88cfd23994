-- Counts over the positions of a list, and the counts of all rules, as one position more is counted.
use Rattle.std.proofs.Common.{◌≡◌, ◌<◌, ◌≤◌, ◌+◌, ◌==◌, inl, inr, ℕ, zero, suc, cond, List, [], ◌∷◌, length, map, replicate, get_or, slice_index, refl, sym, ap, ◌∙◌, arith}
use Rattle.std.specs.List.{range_with_len}
use Rattle.std.proofs.lemmas.Bool.{cases_eq, cases_lt, eq-eqb, ne_eqb}
use Rattle.std.proofs.lemmas.List.{same_lists, length-set, get_or-set_same, get_or-set_other, get_or_past}
use Rattle.std.proofs.lemmas.List.FromFn.{length-map-range_with_len, get_or-map-range_with_len}
use Rattle.er_report.specs.Inner.Adding.{one_more}

pub length-one_more : (counts : List ℕ) (j : ℕ) → length (one_more counts j) ≡ length counts
length-one_more counts j = length-set counts j (slice_index counts j + 1)

pub one_more-most : (counts : List ℕ) (n j : ℕ) → ((i : ℕ) → slice_index counts i ≤ n) → (i : ℕ) → slice_index (one_more counts j) i ≤ n + 1
one_more-most counts n j most i =
    let long : length (one_more counts j) ≡ length counts = length-one_more counts j in
    let low : slice_index counts i ≤ n = most i in
    elim (cases_lt i (length counts)) [
      | inl within ↦ elim (cases_eq i j) [
        | inl here ↦
            (let value : slice_index (one_more counts j) i ≡ slice_index counts j + 1 = rw here (get_or-set_same counts j (slice_index counts j + 1) 0 (rw here at within)) in
            let last : slice_index counts j ≤ n = most j in
            omega (arith, value, last))
        | inr other ↦
            (let value : slice_index (one_more counts j) i ≡ slice_index counts i = get_or-set_other counts j i (slice_index counts j + 1) 0 other in
            omega (arith, value, low))
      ]
      | inr past ↦
          (let value : slice_index (one_more counts j) i ≡ 0 = get_or_past (one_more counts j) i 0 (omega (arith, long, past)) in
          omega (arith, value))
    ]

pub no_counts : (f : ℕ → ℕ) → ((i : ℕ) → f i ≡ 0) → (a n : ℕ) → map f (range_with_len a n) ≡ replicate n 0
no_counts f none a zero = refl
no_counts f none a (suc n) = rw (none a, no_counts f none (a + 1) n) refl

pub same_counts : (f g : ℕ → ℕ) → ((i : ℕ) → f i ≡ g i) → (xs : List ℕ) → map f xs ≡ map g xs
same_counts f g same [] = refl
same_counts f g same (x ∷ xs) = rw (same x, same_counts f g same xs) refl

-- the counts of rules: each is f of its place
module _ (f : ℕ → ℕ) (n : ℕ) where
  count_at : (i d : ℕ) → i < n → get_or (map f (range_with_len 0 n)) i d ≡ f i
  count_at i d within = get_or-map-range_with_len f 0 n i i d within (omega arith)

  pub counts_more : (g : ℕ → ℕ) (j : ℕ) → ((i : ℕ) → g i ≡ f i + cond (i == j) 1 0)
      → one_more (map f (range_with_len 0 n)) j ≡ map g (range_with_len 0 n)
  counts_more g j more =
      let old : List ℕ = map f (range_with_len 0 n) in
      let new : List ℕ = map g (range_with_len 0 n) in
      let long : length old ≡ n = length-map-range_with_len f 0 n in
      let also_long : length new ≡ n = length-map-range_with_len g 0 n in
      let kept : length (one_more old j) ≡ length old = length-set old j (slice_index old j + 1) in
      same_lists (one_more old j) new (omega arith) (λ k d within.
      let below : k < n = omega arith in
      let after : get_or new k d ≡ g k = get_or-map-range_with_len g 0 n k k d below (omega arith) in
      elim (cases_eq k j) [
        | inl here ↦
            (let value : get_or (one_more old j) k d ≡ slice_index old j + 1 =
            rw here (get_or-set_same old j (slice_index old j + 1) d (omega arith)) in
            let before : slice_index old j ≡ f j = count_at j 0 (omega arith) in
            let one : g k ≡ f k + 1 = more k ∙ ap (λ b. f k + cond b 1 0) (eq-eqb k j here) in
            value ∙ ap (λ m. m + 1) before ∙ ap (λ m. f m + 1) (sym here) ∙ sym one ∙ sym after)
        | inr other ↦
            (let value : get_or (one_more old j) k d ≡ get_or old k d = get_or-set_other old j k (slice_index old j + 1) d other in
            let none : g k ≡ f k + 0 = more k ∙ ap (λ b. f k + cond b 1 0) (ne_eqb k j other) in
            value ∙ count_at k d below ∙ (let same : f k ≡ g k = omega arith in same) ∙ sym after)
      ])

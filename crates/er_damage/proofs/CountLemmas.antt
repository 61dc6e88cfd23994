-- A count of the numbers that pass a test changes by one if the test changes at one number.
use Rattle.std.proofs.Common.{◌≡◌, ℕ, zero, suc, ◌+◌, ◌-◌, ◌==◌, ◌<◌, ◌≤◌, nat_lt, Bool, true, false, cond, refl, ap, ap₂, sym, ◌∙◌, arith}
use Rattle.std.proofs.lemmas.Bool.{eqb-true, eqb-false, ltb-true, ltb-false}
use Rattle.er_damage.specs.Counts.{count_below, IsCount}

-- tests that agree below the bound
pub count-agree : (n : ℕ) (p q : ℕ → Bool) → ((t : ℕ) → t < n → q t ≡ p t) → count_below n q ≡ count_below n p
unfolding count_below
count-agree zero p q same = refl
count-agree (suc n) p q same = ap₂ (λ k b. k + cond b 1 0) (count-agree n p q (λ t below. same t (omega arith))) (same n (omega arith))

-- numbers from here on don't pass
further_by : (m n : ℕ) (p : ℕ → Bool) → n ≤ suc m → ((t : ℕ) → n ≤ t → p t ≡ false) → (n ≤ m → count_below m p ≡ count_below n p) → (b : Bool) → (n == suc m) ≡ b →
    count_below (suc m) p ≡ count_below n p
unfolding count_below
further_by m n p above none before true here = ap (λ k. count_below k p) (sym (eqb-true n (suc m) here))
further_by m n p above none before false elsewhere =
    let apart : n ≡ suc m → ⊥ = eqb-false n (suc m) elsewhere in
    let low : n ≤ m = omega arith in
    let last : p m ≡ false = none m low in
    ap (λ b. count_below m p + cond b 1 0) last ∙ (let same = before low in omega arith)

pub count-further : (m n : ℕ) (p : ℕ → Bool) → n ≤ m → ((t : ℕ) → n ≤ t → p t ≡ false) → count_below m p ≡ count_below n p
count-further zero n p above none = let is : n ≡ 0 = omega arith in ap (λ k. count_below k p) (sym is)
count-further (suc m) n p above none = further_by m n p above none (λ low. count-further m n p low none) (n == suc m) refl

-- one number more passes
more_by : (n t : ℕ) (p q : ℕ → Bool) → t < suc n → p t ≡ false → q t ≡ true → ((u : ℕ) → (u ≡ t → ⊥) → q u ≡ p u) →
    (t < n → count_below n q ≡ count_below n p + 1) → (b : Bool) → (n == t) ≡ b →
    count_below n q + cond (q n) 1 0 ≡ count_below n p + cond (p n) 1 0 + 1
more_by n t p q below was is others more true here =
    let same : n ≡ t = eqb-true n t here in
    let before : count_below n q ≡ count_below n p = count-agree n p q (λ u low. others u (λ at. omega arith)) in
    let was_here : p n ≡ false = rw same was in
    let is_here : q n ≡ true = rw same is in
    rw (was_here, is_here, before) (omega arith)
more_by n t p q below was is others more false elsewhere =
    let apart : n ≡ t → ⊥ = eqb-false n t elsewhere in
    let before : count_below n q ≡ count_below n p + 1 = more (omega arith) in
    rw (others n apart, before) (omega arith)

pub count-more : (n t : ℕ) (p q : ℕ → Bool) → t < n → p t ≡ false → q t ≡ true → ((u : ℕ) → (u ≡ t → ⊥) → q u ≡ p u) → count_below n q ≡ count_below n p + 1
unfolding count_below
count-more zero t p q below was is others = absurd (omega arith)
count-more (suc n) t p q below was is others = more_by n t p q below was is others (λ low. count-more n t p q low was is others) (n == t) refl

-- some number passes where the count is not 0, and none where it is
found_by : (n : ℕ) (p : ℕ → Bool) → (0 < count_below n p → (t : ℕ) × (p t ≡ true)) → (b : Bool) → p n ≡ b → 0 < count_below n p + cond b 1 0 → (t : ℕ) × (p t ≡ true)
found_by n p before true here some = (n, here)
found_by n p before false absent some = before (omega arith)

pub count-found : (n : ℕ) (p : ℕ → Bool) → 0 < count_below n p → (t : ℕ) × (p t ≡ true)
unfolding count_below
count-found zero p some = absurd (omega arith)
count-found (suc n) p some = found_by n p (count-found n p) (p n) refl some

none_by : (n t : ℕ) (p : ℕ → Bool) → t < suc n → (t < n → p t ≡ false) → (b : Bool) → (n == t) ≡ b → p n ≡ false → p t ≡ false
none_by n t p below before true here last = let same : n ≡ t = eqb-true n t here in rw (← same) last
none_by n t p below before false elsewhere last = let apart : n ≡ t → ⊥ = eqb-false n t elsewhere in before (omega arith)

last_none : (b : Bool) (k : ℕ) → k + cond b 1 0 ≡ 0 → b ≡ false
last_none true k none = absurd (omega arith)
last_none false k none = refl

pub count-none : (n : ℕ) (p : ℕ → Bool) → count_below n p ≡ 0 → (t : ℕ) → t < n → p t ≡ false
unfolding count_below
count-none zero p none t below = absurd (omega arith)
count-none (suc n) p none t below =
    let before : count_below n p ≡ 0 = omega arith in
    none_by n t p below (count-none n p before t) (n == t) refl (last_none (p n) (count_below n p) none)

-- a count of all that pass
module _ (p q : ℕ → Bool) (n : ℕ) (counts : IsCount p n) where
  pub count_same : ((t : ℕ) → q t ≡ p t) → IsCount q n
  count_same same =
      record {
        bound = counts.bound;
        below = λ t passes. counts.below t (sym (same t) ∙ passes);
        counted = count-agree counts.bound p q (λ t low. same t) ∙ counts.counted;
      }

  pub count_up : (t : ℕ) → p t ≡ false → q t ≡ true → ((u : ℕ) → (u ≡ t → ⊥) → q u ≡ p u) → IsCount q (n + 1)
  count_up t was is others =
      record {
        bound = suc t + counts.bound;
        below = λ u passes. below u (u == t) refl passes;
        counted =
            count-more (suc t + counts.bound) t p q (omega arith) was is others
            ∙ ap (λ k. k + 1) (count-further (suc t + counts.bound) counts.bound p (omega arith) (λ u above. far u above (p u) refl) ∙ counts.counted);
      }
    where
      below : (u : ℕ) (b : Bool) → (u == t) ≡ b → q u ≡ true → u < suc t + counts.bound
      below u true here passes = let same : u ≡ t = eqb-true u t here in omega arith
      below u false elsewhere passes =
          let low : u < counts.bound = counts.below u (sym (others u (eqb-false u t elsewhere)) ∙ passes) in
          omega arith

      far : (u : ℕ) → counts.bound ≤ u → (b : Bool) → p u ≡ b → p u ≡ false
      far u above true passes = let low : u < counts.bound = counts.below u passes in absurd (omega arith)
      far u above false fails = fails

  pub count_down : (t : ℕ) → p t ≡ true → q t ≡ false → ((u : ℕ) → (u ≡ t → ⊥) → q u ≡ p u) → IsCount q (n - 1)
  count_down t was is others =
      record {
        bound = counts.bound;
        below = λ u passes. below u (u == t) refl passes;
        counted =
            let fewer : count_below counts.bound p ≡ count_below counts.bound q + 1 =
            count-more counts.bound t q p (counts.below t was) is was (λ u apart. sym (others u apart)) in
            let all = counts.counted in
            omega arith;
      }
    where
      below : (u : ℕ) (b : Bool) → (u == t) ≡ b → q u ≡ true → u < counts.bound
      below u true here passes = let same : u ≡ t = eqb-true u t here in let never : q t ≡ true = rw (← same) passes in let clash = sym never ∙ is in cc
      below u false elsewhere passes = counts.below u (sym (others u (eqb-false u t elsewhere)) ∙ passes)

  pub count_found : nat_lt 0 n ≡ true → (t : ℕ) × (p t ≡ true)
  count_found some =
      let above : 0 < n = ltb-true 0 n some in
      let all = counts.counted in
      count-found counts.bound p (omega arith)

  pub count_none : nat_lt 0 n ≡ false → (t : ℕ) → p t ≡ false
  count_none none t = by (p t) refl
    where
      by : (b : Bool) → p t ≡ b → p t ≡ false
      by true passes =
          let low = ltb-false 0 n none in
          let all = counts.counted in
          count-none counts.bound p (omega arith) t (counts.below t passes)
      by false fails = fails

-- nobody
pub count_nobody : (p : ℕ → Bool) → ((t : ℕ) → p t ≡ false) → IsCount p 0
unfolding count_below
count_nobody p none = record { bound = 0; below = λ t passes. let clash = sym passes ∙ none t in cc; counted = refl }

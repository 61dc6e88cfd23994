-- One clock among all, as a map of clocks is read and written.
use Rattle.std.proofs.Common.{◌≡◌, ℕ, [], Bool, true, false, cond, List, Option, Some, None, unwrap_or, refl, ap, sym, ◌∙◌, eqb}
use Rattle.std.proofs.lemmas.Bool.{eqb-true}
use Rattle.std.specs.Map.{lookup}
use Rattle.er_clock.specs.Clock.{Counts, nothing, count_in}
use Rattle.er_clock.specs.Table.{clock_at, known_by}
use Rattle.er_clock.proofs.Parts.{counts_nothing}

-- what is found is the number's
pub clock_found : (clocks : List (ℕ × Counts)) (n : ℕ) (c : Counts) → Some c ≡ lookup (eqb n) clocks → c ≡ clock_at clocks n
unfolding clock_at
clock_found clocks n c found = rw (← found) refl

clock_absent : (clocks : List (ℕ × Counts)) (n : ℕ) → None ≡ lookup (eqb n) clocks → nothing ≡ clock_at clocks n
unfolding clock_at
clock_absent clocks n absent = rw (← absent) refl

unwrap_cond : (b : Bool) (c : Counts) (o : Option Counts) → unwrap_or (cond b (Some c) o) nothing ≡ cond b c (unwrap_or o nothing)
unwrap_cond true c o = refl
unwrap_cond false c o = refl

-- what is written is one number's
clock_written : (clocks more : List (ℕ × Counts)) (number : ℕ) (c : Counts) →
    ((q : ℕ) → lookup (eqb q) more ≡ cond (eqb number q) (Some c) (lookup (eqb q) clocks)) →
    (n : ℕ) → clock_at more n ≡ cond (eqb number n) c (clock_at clocks n)
unfolding clock_at
clock_written clocks more number c written n = ap (λ o. unwrap_or o nothing) (written n) ∙ unwrap_cond (eqb number n) c (lookup (eqb n) clocks)

-- what is written has of each thread a count that is made of its count before
pub count_written : (f : ℕ → ℕ → ℕ) (clocks more : List (ℕ × Counts)) (number : ℕ) (c : Counts) →
    ((q : ℕ) → lookup (eqb q) more ≡ cond (eqb number q) (Some c) (lookup (eqb q) clocks)) →
    ((u : ℕ) → count_in c u ≡ f u (known_by clocks number u)) →
    (n u : ℕ) → known_by more n u ≡ cond (eqb number n) (f u (known_by clocks n u)) (known_by clocks n u)
count_written f clocks more number c written is n u = ap (λ counts. count_in counts u) (clock_written clocks more number c written n) ∙ by (eqb number n) refl
  where
    by : (b : Bool) → eqb number n ≡ b → count_in (cond b c (clock_at clocks n)) u ≡ cond b (f u (known_by clocks n u)) (known_by clocks n u)
    by true same = is u ∙ ap (λ m. f u (known_by clocks m u)) (eqb-true number n same)
    by false other = refl

-- what is written again leaves all counts as they were
pub count_rewritten : (clocks more : List (ℕ × Counts)) (number : ℕ) (c : Counts) →
    ((q : ℕ) → lookup (eqb q) more ≡ cond (eqb number q) (Some c) (lookup (eqb q) clocks)) →
    ((u : ℕ) → count_in c u ≡ known_by clocks number u) →
    (n u : ℕ) → known_by more n u ≡ known_by clocks n u
count_rewritten clocks more number c written is n u = count_written (λ v x. x) clocks more number c written is n u ∙ same (eqb number n) (known_by clocks n u)
  where
    same : (b : Bool) (x : ℕ) → cond b x x ≡ x
    same true x = refl
    same false x = refl

-- if no clock is there
pub count_empty : (clocks : List (ℕ × Counts)) (n u : ℕ) → clocks ≡ [] → known_by clocks n u ≡ 0
unfolding clock_at
count_empty clocks n u none = rw none (counts_nothing u)

-- a number that isn't there has counts of 0
pub count_absent : (clocks : List (ℕ × Counts)) (n : ℕ) → None ≡ lookup (eqb n) clocks → (u : ℕ) → known_by clocks n u ≡ 0
count_absent clocks n absent u = ap (λ counts. count_in counts u) (sym (clock_absent clocks n absent)) ∙ counts_nothing u

-- The line of the first position of a sort, as the list of positions goes on.
use Rattle.std.proofs.Common.{◌≡◌, ℕ, suc, ◌<◌, ◌==◌, Bool, true, false, List, [], ◌∷◌, ◌++◌, length, Option, Some, None, refl, ap, sym, ◌∙◌, subst, arith}
use Rattle.std.proofs.Math.ListN.{get_or-append}
use Rattle.std.proofs.Math.Seq.{get_or-append_seam}
use Rattle.std.proofs.lemmas.Bool.{eqb-true, eqb-false}
use Rattle.std.specs.Prelude.{slice_index}
use Rattle.er_damage.specs.Damage.{IsFirstLine}
use Rattle.er_damage.specs.Inner.Steps.{found_line}

-- P was said of n positions, and Q is said of one more; they agree on the n
module _ (P Q : ℕ → Type 0) (lines : List ℕ) (n line : ℕ) (level : length lines ≡ n)
    (there : (k : ℕ) → k < n → P k → Q k) (back : (k : ℕ) → k < n → Q k → P k) where
  kept : (found : ℕ) → IsFirstLine P lines n (Some found) → IsFirstLine Q (lines ++ line ∷ []) (suc n) (Some found)
  kept found first =
      let low : first.0 < length lines = omega (arith, first.1, level) in (
        first.0,
        omega (arith, first.1),
        there first.0 first.1 first.2,
        (λ j below q. first.3 j below (back j (omega (arith, first.1, below)) q)),
        first.4 ∙ sym (get_or-append lines (line ∷ []) 0 first.0 low),
      )

  here : IsFirstLine P lines n None → Q n → IsFirstLine Q (lines ++ line ∷ []) (suc n) (Some line)
  here none now = (
    n,
    omega arith,
    now,
    (λ j below q. none j below (back j below q)),
    sym (ap (λ i. slice_index (lines ++ line ∷ []) i) (sym level) ∙ get_or-append_seam lines line [] 0),
  )

  nowhere : IsFirstLine P lines n None → (Q n → ⊥) → IsFirstLine Q (lines ++ line ∷ []) (suc n) None
  nowhere none not k below q = by (k == n) refl
    where
      by : (b : Bool) → (k == n) ≡ b → ⊥
      by true last = not (subst Q (eqb-true k n last) q)
      by false before = let apart = eqb-false k n before in let low : k < n = omega arith in none k low (back k low q)

  pub first_on : (o : Option ℕ) (b : Bool) → (b ≡ true → Q n) → (b ≡ false → Q n → ⊥) → IsFirstLine P lines n o →
      IsFirstLine Q (lines ++ line ∷ []) (suc n) (found_line o b line)
  first_on (Some found) b holds fails first = kept found first
  first_on None true holds fails first = here first (holds refl)
  first_on None false holds fails first = nowhere first (fails refl)

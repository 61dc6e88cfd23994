-- The numbers of parts: those that first lines name, each once, have no gap.
use Rattle.std.proofs.Common.{◌≡◌, ℕ, suc, ◌+◌, ◌<◌, ◌≤◌, ◌==◌, ◌||◌, Bool, true, false, cond, nat_le, nat_lt, List, [], ◌∷◌, count_by, get_or, codes, Option, Some, None, refl, sym, ap, subst, ◌∙◌, inl, inr, arith}
use Rattle.std.specs.List.{All}
use Rattle.std.specs.List.Sorted.{IsNonDecreasing, IsPermutation}
use Rattle.std.specs.Option.{option_and_then}
use Rattle.std.proofs.lemmas.Bool.{cases_lt}
use Rattle.std.proofs.lemmas.Bool.Decides.{nat_tests}
use Rattle.std.proofs.lemmas.List.Elements.{All-cons, All-head, All-nil, All-tail}
use Rattle.std.proofs.lemmas.List.Sorted.{All-permutation, sum_by-IsPermutation}
use Rattle.std.proofs.lemmas.List.Sums.{sum_by-cons}
use Rattle.er_parts.specs.Merged.{HasEachPart}
use Rattle.er_merge.specs.Lines.{number_behind}
use Rattle.er_merge.specs.Merging.{gap_from}
use Rattle.er_merge.specs.Parts.{HeadingView, heading_in}
use Rattle.er_merge.specs.declared.merging.Gap.TheVariants as gap

-- the number of a part is from 1 up to the number of parts

abbrev pub IsWithin : ℕ → ℕ → Type 0
IsWithin count i = (1 ≤ i) × (i ≤ count)

right_step : (h g : HeadingView) (b : Bool) → (h.part == 0 || nat_lt h.parts h.part) ≡ b → cond b None (Some h) ≡ Some g → IsWithin g.parts g.part
right_step h g true e is = absurd (cc)
right_step h g false e is = let same : h ≡ g = cc in subst (λ (x : HeadingView). IsWithin x.parts x.part) same (grind (arith, nat_tests, e), grind (arith, nat_tests, e))

abbrev pub right : HeadingView → Option HeadingView
right h = cond (h.part == 0 || nat_lt h.parts h.part) None (Some h)

right_of : (h g : HeadingView) → right h ≡ Some g → IsWithin g.parts g.part
right_of h g is = right_step h g (h.part == 0 || nat_lt h.parts h.part) refl is

second_by : (n : ℕ) (o : Option (ℕ × List ℕ)) (g : HeadingView) → option_and_then (λ (parts : ℕ × List ℕ). right (record { part = n; parts = parts.0; about = parts.1 })) o ≡ Some g → IsWithin g.parts g.part
second_by n None g is = absurd (cc)
second_by n (Some parts) g is = right_of (record { part = n; parts = parts.0; about = parts.1 }) g is

first_by : (o : Option (ℕ × List ℕ)) (g : HeadingView)
    → option_and_then (λ (part : ℕ × List ℕ). option_and_then (λ (parts : ℕ × List ℕ). right (record { part = part.0; parts = parts.0; about = parts.1 })) (number_behind (codes " of ") part.1)) o ≡ Some g
    → IsWithin g.parts g.part
first_by None g is = absurd (cc)
first_by (Some part) g is = second_by part.0 (number_behind (codes " of ") part.1) g is

pub named_within : (line : List ℕ) (g : HeadingView) → heading_in line ≡ Some g → IsWithin g.parts g.part
named_within line g is = first_by (number_behind (codes "# part ") line) g is

-- rising numbers of a range, each of them once

count_cons : (p : ℕ → Bool) (x : ℕ) (xs : List ℕ) → count_by p (x ∷ xs) ≡ cond (p x) 1 0 + count_by p xs
count_cons p x xs = sum_by-cons (λ y. cond (p y) 1 0) x xs

count_yes : (i x : ℕ) (xs : List ℕ) → x ≡ i → count_by (λ y. i == y) (x ∷ xs) ≡ 1 + count_by (λ y. i == y) xs
count_yes i x xs same = let test : (i == x) ≡ true = grind (arith, nat_tests, same) in count_cons (λ y. i == y) x xs ∙ ap (λ b. cond b 1 0 + count_by (λ y. i == y) xs) test

count_no : (i x : ℕ) (xs : List ℕ) → (x ≡ i → ⊥) → count_by (λ y. i == y) (x ∷ xs) ≡ count_by (λ y. i == y) xs
count_no i x xs other = let test : (i == x) ≡ false = grind (arith, nat_tests, other) in count_cons (λ y. i == y) x xs ∙ ap (λ b. cond b 1 0 + count_by (λ y. i == y) xs) test ∙ omega arith

count_none : (i : ℕ) (xs : List ℕ) → All (λ x. i < x) xs → count_by (λ y. i == y) xs ≡ 0
count_none i [] above = refl
count_none i (x ∷ xs) above =
    let first = All-head (λ y. i < y) x xs above in
    count_no i x xs (λ same. absurd (omega (arith, first, same))) ∙ count_none i xs (All-tail (λ y. i < y) x xs above)

apart_step : (i x : ℕ) (xs : List ℕ) (b : Bool) → (i == x) ≡ b → cond b 1 0 + count_by (λ y. i == y) xs ≡ 0 → (x ≡ i → ⊥) × (count_by (λ y. i == y) xs ≡ 0)
apart_step i x xs true e none = absurd (omega (arith, none))
apart_step i x xs false e none = (λ same. absurd (grind (arith, nat_tests, e, same)), omega (arith, none))

all_apart : (i : ℕ) (xs : List ℕ) → count_by (λ y. i == y) xs ≡ 0 → All (λ x. x ≡ i → ⊥) xs
all_apart i [] none = All-nil (λ x. x ≡ i → ⊥)
all_apart i (x ∷ xs) none =
    let parts = apart_step i x xs (i == x) refl (sym (count_cons (λ y. i == y) x xs) ∙ none) in
    All-cons (λ y. y ≡ i → ⊥) x xs parts.0 (all_apart i xs parts.1)

gap_end : (last next : ℕ) (b : Bool) → nat_le next last ≡ b → (next ≤ last → ⊥) → cond b (Some (gap.Missing next)) None ≡ None
gap_end last next true e never = absurd (never (grind (arith, nat_tests, e)))
gap_end last next false e never = refl

gap_step : (last next place : ℕ) (xs : List ℕ) → place ≡ next → gap_from last (next + 1) xs ≡ None → gap_from last next (place ∷ xs) ≡ None
gap_step last next place xs same more =
    let below : nat_lt place next ≡ false = grind (arith, nat_tests, same) in
    let above : nat_lt next place ≡ false = grind (arith, nat_tests, same) in
    rw (below, above) more

module _ (last : ℕ) where
  abbrev IsIn : ℕ → ℕ → Type 0
  IsIn next x = (next ≤ x) × (x ≤ last)

  -- the first is the least of the range
  first_least : (next place : ℕ) (xs : List ℕ) → IsNonDecreasing (place ∷ xs) → All (IsIn next) (place ∷ xs) → count_by (λ y. next == y) (place ∷ xs) ≡ 1 → place ≡ next
  first_least next place xs up all once =
      let low = (All-head (IsIn next) place xs all).0 in
      elim (cases_lt next place) [
        | inl less ↦
            let above : All (λ x. next < x) (place ∷ xs) = λ k d within. (let far = up 0 k d (omega arith) within in omega (arith, far, less)) in
            let none = count_none next (place ∷ xs) above in
            absurd (omega (arith, none, once))
        | inr most ↦ omega (arith, low, most)
      ]

  above_first : (next place : ℕ) (xs : List ℕ) → place ≡ next → All (IsIn next) (place ∷ xs) → count_by (λ y. next == y) (place ∷ xs) ≡ 1 → All (IsIn (next + 1)) xs
  above_first next place xs same all once =
      let none : count_by (λ y. next == y) xs ≡ 0 = (let one = count_yes next place xs same in omega (arith, one, once)) in
      let others = all_apart next xs none in
      let rest = All-tail (IsIn next) place xs all in
      λ k d within.
      let other = others k d within in
      let low = (rest k d within).0 in
      let high = (rest k d within).1 in
      ((elim (cases_lt next (get_or xs k d)) [ inl less ↦ omega (arith, less) | inr most ↦ absurd (other (omega (arith, low, most))) ]), high)

  gap_none : (next : ℕ) (xs : List ℕ) → IsNonDecreasing xs → All (IsIn next) xs → ((i : ℕ) → next ≤ i → i ≤ last → count_by (λ y. i == y) xs ≡ 1) → gap_from last next xs ≡ None
  gap_none next [] up all each = gap_end last next (nat_le next last) refl (λ low. absurd (omega (arith, each next (omega arith) low)))
  gap_none next (place ∷ xs) up all each =
      let high = (All-head (IsIn next) place xs all).1 in
      let low = (All-head (IsIn next) place xs all).0 in
      let once = each next (omega arith) (omega (arith, low, high)) in
      let same = first_least next place xs up all once in
      gap_step last next place xs same
      (gap_none (next + 1) xs (λ i j d before within. up (suc i) (suc j) d (omega (arith, before)) (omega (arith, within))) (above_first next place xs same all once)
      (λ i above below. sym (count_no i place xs (λ is. absurd (omega (arith, is, same, above)))) ∙ each i (omega (arith, above)) below))

-- in whatever order they are
pub no_gap : (count : ℕ) (xs rising : List ℕ) → HasEachPart count xs → All (IsWithin count) xs → IsPermutation xs rising → IsNonDecreasing rising → gap_from count 1 rising ≡ None
no_gap count xs rising each all same up =
    gap_none count 1 rising up (All-permutation (IsWithin count) xs rising same all) (λ i low high. sum_by-IsPermutation (λ x. cond (i == x) 1 0) xs rising same ∙ each i low high)

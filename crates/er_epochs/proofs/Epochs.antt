-- Tests of what a list was made of, and what `retain` keeps.
use Rattle.std.proofs.Common.{◌≡◌, Bool, true, false, cond, List, [], ◌∷◌, ◌++◌, filter, map, length, refl, ap, ap₂, subst, ◌∙◌, arith}
use Rattle.std.specs.List.{items_where_true}
use Rattle.std.specs.List.Retain.{IsFiltered, ReturnsInTurn}

pub map-push : {X Y : Type 0} (f : X → Y) (xs : List X) (x : X) → map f (xs ++ x ∷ []) ≡ map f xs ++ f x ∷ []
map-push f [] x = refl
map-push f (y ∷ xs) x = ap (λ ys. f y ∷ ys) (map-push f xs x)

first_where : {X : Type 0} (b : Bool) (bs : List Bool) (x : X) (xs : List X) →
    items_where_true (b ∷ bs) (x ∷ xs) ≡ cond b (x ∷ items_where_true bs xs) (items_where_true bs xs)
first_where true bs x xs = refl
first_where false bs x xs = refl

-- what `retain` keeps, where its test stays as it is from call to call
module _ {X P : Type 0} (R : P → X → Bool → P → Type 0) (test : X → Bool) (f : P) (told : (x : X) (b : Bool) (q : P) → R f x b q → (b ≡ test x) × (q ≡ f)) where
  kept_where : (p q : P) → p ≡ f → (bs : List Bool) (xs : List X) → length bs ≡ length xs → ReturnsInTurn R p bs xs q → items_where_true bs xs ≡ filter test xs
  kept_where p q is [] [] same turns = refl
  kept_where p q is [] (x ∷ xs) same turns = absurd (omega arith)
  kept_where p q is (b ∷ bs) [] same turns = absurd turns
  kept_where p q is (b ∷ bs) (x ∷ xs) same turns =
      let answer = told x b turns.0 (subst (λ (g : P). R g x b turns.0) is turns.1) in
      first_where b bs x xs ∙ ap₂ (λ b ys. cond b (x ∷ ys) ys) answer.0 (kept_where turns.0 q answer.1 bs xs (omega (arith, same)) turns.2)

  pub retained : (xs ys : List X) → IsFiltered R f xs ys → ys ≡ filter test xs
  retained xs ys s = s.4 ∙ kept_where f s.1 refl s.0 xs s.2 s.3

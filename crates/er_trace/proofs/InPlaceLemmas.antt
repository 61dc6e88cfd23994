-- A list whose elements are changed in place, from the first on.
use Rattle.std.proofs.Common.{◌≡◌, ℕ, ◌+◌, ◌<◌, List, [], ◌∷◌, ◌++◌, map, take, drop, length, get_or, set, sym, ap, ◌∙◌, arith}
use Rattle.std.proofs.lemmas.List.{map-append, take_more, take_more_set, drop_more, drop-set-lt}
use Rattle.std.proofs.lemmas.Grind.{drop_more_same}

module _ {X : Type 0} (xs ys : List X) (at : ℕ) (len : length ys ≡ length xs) (inside : at < length xs) (rest : drop at ys ≡ drop at xs) where
  -- the next element is still as it was
  pub same_read : (d : X) → get_or ys at d ≡ get_or xs at d
  same_read d =
      let both : get_or ys at d ∷ drop (at + 1) ys ≡ get_or xs at d ∷ drop (at + 1) xs =
      sym (drop_more ys at d (omega (arith, len, inside))) ∙ rest ∙ drop_more xs at d inside in
      cc

  -- once it has changed, so are those behind it
  pub rest_still : (y : X) → drop (at + 1) (set ys at y) ≡ drop (at + 1) xs
  rest_still y = drop-set-lt (at + 1) ys at y (omega arith) ∙ drop_more_same ys xs at rest

  -- and one more has changed
  pub front_on : (f : X → X) (y d : X) → take at ys ≡ map f (take at xs) → y ≡ f (get_or xs at d) → take (at + 1) (set ys at y) ≡ map f (take (at + 1) xs)
  front_on f y d done is =
      take_more_set ys at y (omega (arith, len, inside))
      ∙ ap (λ (l : List X). l ++ y ∷ []) done
      ∙ ap (λ (z : X). map f (take at xs) ++ z ∷ []) is
      ∙ sym (map-append f (take at xs) (get_or xs at d ∷ []))
      ∙ ap (map f) (sym (take_more xs at d inside))

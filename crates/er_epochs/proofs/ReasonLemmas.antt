-- At a race, what is found among what is stored is the access that the race is unordered with.
use Rattle.std.proofs.Common.{◌≡◌, ℕ, Bool, true, false, ◌==◌, cond, List, [], ◌∷◌, map, Some, refl, sym}
use Rattle.std.proofs.lemmas.Bool.{eq-eqb, or_left, or_right}
use Rattle.std.specs.List.{find}
use Rattle.std.specs.Option.{option_map}
use Rattle.er_event.specs.Lockset.{has}

-- a search through a map
module _ {X : Type 0} (p : ℕ → Bool) (q : X → Bool) (f : ℕ → X) where
  find_one : (b : Bool) (x : ℕ) (xs : List ℕ) → p x ≡ b → q (f x) ≡ b → find q (map f xs) ≡ option_map f (find p xs) →
      cond (q (f x)) (Some (f x)) (find q (map f xs)) ≡ option_map f (cond (p x) (Some x) (find p xs))
  find_one true x xs one two rest = rw (one, two) refl
  find_one false x xs one two rest = rw (one, two) rest

  pub find-mapped : (xs : List ℕ) → ((j : ℕ) → has xs j ≡ true → p j ≡ q (f j)) → find q (map f xs) ≡ option_map f (find p xs)
  find-mapped [] h = refl
  find-mapped (x ∷ xs) h =
      find_one (p x) x xs refl (sym (h x (or_left (x == x) (has xs x) (eq-eqb x x refl)))) (find-mapped xs (λ j member. h j (or_right (x == j) (has xs j) member)))

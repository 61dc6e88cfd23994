-- Values in a list.
use Rattle.std.specs.Prelude.{ℕ, zero, suc, List, [], ◌∷◌, ◌++◌, flat_map, codes}

-- values behind this sign
abbrev pub more_text : {X : Type 0} → ℕ → (X → List ℕ) → List X → List ℕ
more_text sign text xs = flat_map (λ x. sign ∷ text x) xs

-- values with this sign between them
abbrev pub between_text : {X : Type 0} → ℕ → (X → List ℕ) → List X → List ℕ
between_text sign text [] = []
between_text sign text (x ∷ xs) = text x ++ more_text sign text xs

-- values with commas between them
abbrev pub values_text : {X : Type 0} → (X → List ℕ) → List X → List ℕ
values_text text xs = between_text 44 text xs

-- an array of them
abbrev pub array_text : {X : Type 0} → (X → List ℕ) → List X → List ℕ
array_text text xs = 91 ∷ values_text text xs ++ 93 ∷ []

-- what stands before the value in a place of an array
abbrev pub comma_before : ℕ → List ℕ
comma_before zero = []
comma_before (suc n) = codes ","

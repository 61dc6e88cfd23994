-- How a join and a tick make room, how far a join has come, and between which counts those of a block lie.
use Rattle.std.specs.Prelude.{ℕ, ◌≤◌, ◌<◌, zero, suc, max, List, [], ◌∷◌, length, get_or}

-- the list with zeros after it where it has fewer than n places
unfoldable pub padded : ℕ → List ℕ → List ℕ
padded zero xs = xs
padded (suc n) [] = 0 ∷ padded n []
padded (suc n) (x ∷ xs) = x ∷ padded n xs

-- the list with what the second one has past its end
unfoldable pub lengthened : List ℕ → List ℕ → List ℕ
lengthened [] ys = ys
lengthened (x ∷ xs) [] = x ∷ xs
lengthened (x ∷ xs) (y ∷ ys) = x ∷ lengthened xs ys

-- the greater count at each of the first n places, and the first list's beyond them
unfoldable pub merged_below : ℕ → List ℕ → List ℕ → List ℕ
merged_below zero xs ys = xs
merged_below (suc n) [] ys = []
merged_below (suc n) (x ∷ xs) [] = x ∷ xs
merged_below (suc n) (x ∷ xs) (y ∷ ys) = max x y ∷ merged_below n xs ys

-- each count is one of these two or between them; past the end it is 0
abbrev pub AreWithin : ℕ → ℕ → List ℕ → Type 0
AreWithin low high counts = ((u : ℕ) → u < length counts → low ≤ get_or counts u 0) × ((u : ℕ) → get_or counts u 0 ≤ high)

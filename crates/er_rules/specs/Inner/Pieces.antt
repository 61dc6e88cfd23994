-- The pieces of a pattern between its stars.
use Rattle.std.specs.Prelude.{◌≡◌, ◌++◌, ℕ, Bool, false, List, ◌∷◌, Option, Some, None}
use denote.Ref.{Bor}
use Rattle.er_rules.specs.Patterns.{star, has_star, takes_end, pattern_takes}

-- a piece, and what is behind its star if there is one
abbrev pub rejoined : List ℕ → Option (Bor (List ℕ)) → List ℕ
rejoined piece None = piece
rejoined piece (Some more) = piece ++ star ∷ more.now

-- the split has the piece in front of the first star, and what is behind that
abbrev pub IsSplit : List ℕ → Bor (List ℕ) × Option (Bor (List ℕ)) → Type 0
IsSplit pattern split = (has_star split.0.now ≡ false) × (pattern ≡ rejoined split.0.now split.1)

-- whether a pattern takes some end of what is left of a name
abbrev pub takes_behind : List ℕ → Option (Bor (List ℕ)) → Bool
takes_behind pattern None = false
takes_behind pattern (Some name) = takes_end (pattern_takes pattern) name.now

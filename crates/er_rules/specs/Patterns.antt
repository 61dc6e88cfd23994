-- Patterns of names.
use Rattle.std.specs.Prelude.{ℕ, ◌==◌, ◌&&◌, ◌||◌, Bool, true, false, List, [], ◌∷◌, if◌then◌else◌}
use Rattle.std.specs.List.{list_any}

-- the byte `*`
abbrev pub star : ℕ
star = 42

-- the name has a star
abbrev pub has_star : List ℕ → Bool
has_star name = list_any (λ byte. byte == star) name

-- some end of the name passes, which may be all of it or nothing
abbrev pub takes_end : (List ℕ → Bool) → List ℕ → Bool
takes_end passes [] = passes []
takes_end passes (byte ∷ name) = passes (byte ∷ name) || takes_end passes name

-- the name begins with this byte, and what is behind it passes
abbrev pub takes_byte : ℕ → (List ℕ → Bool) → List ℕ → Bool
takes_byte wanted passes [] = false
takes_byte wanted passes (byte ∷ name) = byte == wanted && passes name

-- a star stands for any run of bytes, which may be empty, and every other byte for itself
unfoldable pub pattern_takes : List ℕ → List ℕ → Bool
pattern_takes [] [] = true
pattern_takes [] (byte ∷ name) = false
pattern_takes (byte ∷ pattern) name = if byte == star then takes_end (pattern_takes pattern) name else takes_byte byte (pattern_takes pattern) name

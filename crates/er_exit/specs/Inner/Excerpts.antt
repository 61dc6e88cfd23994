-- One line of a text, by its number.
use Rattle.std.specs.Prelude.{ℕ, ◌-◌, ◌==◌, Bool, cond, List, [], ◌∷◌, ◌++◌}

-- the bytes of the line that has so many lines before it
unfoldable pub line_at : ℕ → List ℕ → List ℕ
line_at before [] = []
line_at before (byte ∷ bytes) =
    cond (byte == 10) (cond (before == 0) [] (line_at (before - 1) bytes)) (cond (before == 0) (byte ∷ line_at before bytes) (line_at before bytes))

-- what a search finds that has this of the line so far, with so many lines before it, if these bytes are left
abbrev pub line_with : ℕ → Bool → List ℕ → List ℕ → List ℕ
line_with before ended found rest = cond ended found (found ++ line_at before rest)

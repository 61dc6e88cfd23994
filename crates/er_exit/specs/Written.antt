-- What advice leaves in a writer.
use Rattle.std.specs.Prelude.{◌≡◌, ℕ, true, List, [], ◌∷◌, ◌++◌, Option}
use Rattle.std.specs.Io.KnownBytes.{Appends}
use Rattle.er_exit.specs.Plain.{fitting, is_plain}
use Rattle.er_exit.specs.Quote.{quote_text}

-- text that a terminal takes for no command was put behind what was there
abbrev pub AddsPlain : Option (List ℕ) → Option (List ℕ) → Type 0
AddsPlain old new = (text : List ℕ) × (is_plain text ≡ true) × Appends old new text

-- as much of a text as fits in so many columns, between two others, if it has bytes
abbrev pub part_text : List ℕ → List ℕ → ℕ → List ℕ → List ℕ
part_text front [] columns back = []
part_text front (byte ∷ bytes) columns back = front ++ fitting columns (byte ∷ bytes) ++ back

-- a line that has bytes
abbrev pub line_text : List ℕ → ℕ → List ℕ
line_text [] place = []
line_text (byte ∷ bytes) place = quote_text (byte ∷ bytes) place

-- The parts of a text as they are put, one by one.
use Rattle.std.specs.Prelude.{ℕ, List, [], ◌∷◌, ◌++◌}
use Rattle.er_print.specs.Pieces.{before_of, value_text}
use Rattle.er_print.specs.declared.pieces.Piece.{Piece}
use Rattle.er_print.specs.declared.styles.Style.{Style}
use Rattle.er_trace.specs.Names.{NameTable}

-- a text behind another
abbrev pub behind : List ℕ → List ℕ → List ℕ
behind front [] = front
behind front (byte ∷ more) = front ++ byte ∷ more

-- the parts of a list behind a text
abbrev pub text_behind : Style → NameTable → List ℕ → List Piece → List ℕ
text_behind style names front [] = front
text_behind style names front (piece ∷ pieces) = text_behind style names (behind front (before_of piece) ++ value_text style names piece) pieces

-- the parts of a list behind nothing
abbrev pub joined_text : Style → NameTable → List Piece → List ℕ
joined_text style names pieces = text_behind style names [] pieces

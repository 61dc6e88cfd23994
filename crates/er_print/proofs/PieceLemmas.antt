-- Parts, one by one.
use Rattle.std.proofs.Common.{◌≡◌, ◌<◌, ℕ, zero, suc, List, [], ◌∷◌, ◌++◌, length, get_or, flat_map, refl, ap, sym, ◌∙◌, append_assoc, arith}
use Rattle.std.proofs.lemmas.List.{append-nil}
use Rattle.er_trace.specs.Names.{NameTable}
use Rattle.er_print.specs.Inner.Joined.{behind, joined_text, text_behind}
use Rattle.er_print.specs.Pieces.{HasPieceName, HavePieceNames, before_of, piece_text, pieces_text, value_text}
use Rattle.er_print.specs.declared.pieces.Piece.{Piece}
use Rattle.er_print.specs.declared.styles.Style.{Style}

-- the part in place k has a name
pub has_name : (names : NameTable) (pieces : List Piece) (k : ℕ) (d : Piece) → k < length pieces → HavePieceNames names pieces → HasPieceName names (get_or pieces k d)
has_name names [] k d within have = absurd (omega arith)
has_name names (piece ∷ pieces) zero d within have = have.0
has_name names (piece ∷ pieces) (suc k) d within have = has_name names pieces k d (omega arith) have.1

-- a text behind another
pub behind_is : (front more : List ℕ) → behind front more ≡ front ++ more
behind_is front [] = sym (append-nil front)
behind_is front (byte ∷ more) = refl

-- the texts of parts, one behind another
all_behind : (style : Style) (names : NameTable) (front : List ℕ) (pieces : List Piece) → front ++ flat_map (piece_text style names) pieces ≡ text_behind style names front pieces
all_behind style names front [] = append-nil front
all_behind style names front (piece ∷ pieces) =
    let before : List ℕ = before_of piece in
    let value : List ℕ = value_text style names piece in
    sym (append_assoc front (before ++ value) (flat_map (piece_text style names) pieces))
    ∙ ap (λ (text : List ℕ). text ++ flat_map (piece_text style names) pieces) (sym (append_assoc front before value) ∙ ap (λ (text : List ℕ). text ++ value) (sym (behind_is front before)))
    ∙ all_behind style names (behind front before ++ value) pieces

pub joined : (style : Style) (names : NameTable) (pieces : List Piece) → pieces_text style names pieces ≡ joined_text style names pieces
joined style names pieces = all_behind style names [] pieces

-- Pieces of bytes, one behind the other.
use Rattle.std.specs.Prelude.{◌≡◌, ◌≤◌, ℕ, List, [], ◌∷◌, length, take, drop}
use Rattle.er_text.specs.declared.verbs.Version.{Version}
use Rattle.er_lines.specs.Lines.{AreWhole}
use Rattle.er_text.specs.Pieces.{ReadPiece, IsPieceOf}
use Rattle.er_trace.specs.Names.{NameTable}

-- these pieces were read of the bytes behind these names, one behind the other, each of whole lines
abbrev pub ArePiecesOf : Version → NameTable → List ℕ → List ReadPiece → Type 0
ArePiecesOf v names bytes [] = bytes ≡ []
ArePiecesOf v names bytes (p ∷ ps) = (p.len ≤ length bytes) × AreWhole (take p.len bytes) × IsPieceOf v names (take p.len bytes) p × ArePiecesOf v names (drop p.len bytes) ps

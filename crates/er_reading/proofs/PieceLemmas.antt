-- Pieces behind others.
use Rattle.std.proofs.Common.{◌≡◌, ℕ, ◌+◌, List, [], ◌∷◌, length, take, drop, sym, ap, ◌∙◌, subst, arith}
use Rattle.std.proofs.lemmas.List.{take-append-le, drop-append-le, length-append, length-drop}
use Rattle.er_trace.proofs.RenumberingLemmas.{still_has_all}
use Rattle.er_trace.specs.Appended.{with_table}
use Rattle.er_trace.specs.Names.{NameTable}
use Rattle.er_text.specs.declared.verbs.Version.{Version}
use Rattle.er_lines.specs.Lines.{AreWhole}
use Rattle.er_text.specs.Pieces.{ReadPiece, IsPieceOf, StandsInFront}
use Rattle.er_text.specs.Places.{Reached}
use Rattle.er_reading.specs.Inner.Adding.{StandInFront}
use Rattle.er_reading.specs.Pieces.{ArePiecesOf}

-- the first of the pieces in front of a reader
pub first_in_front : (names : NameTable) (reader : Reached) (p : ReadPiece) (ps : List ReadPiece) → StandInFront names reader (p ∷ ps) → StandsInFront names reader p
first_in_front names reader p ps all =
    let front : take p.len reader.place.ahead ≡ take p.len all.front = ap (take p.len) all.ahead ∙ take-append-le p.len all.front all.more all.read.0 in
    record {
      version = all.version;
      stage = all.stage;
      idle = all.idle;
      fits = omega (arith, all.read.0, ap length all.ahead, length-append all.front all.more);
      lines = subst AreWhole (sym front) all.read.1;
      within = omega (arith, all.within, all.read.0);
      read = subst (λ (b : List ℕ). IsPieceOf all.version names b p) (sym front) all.read.2;
    }

-- pieces that were read behind some names stand behind more of them
pub pieces_behind : (v : Version) (names more : NameTable) (bytes : List ℕ) (ps : List ReadPiece) → ArePiecesOf v names bytes ps → ArePiecesOf v (with_table names more) bytes ps
pieces_behind v names more bytes [] are = are
pieces_behind v names more bytes (p ∷ ps) are = (
  are.0,
  are.1,
  (
    are.2.0,
    (λ whole. let over = are.2.1 whole in record { kept = over.kept; has = still_has_all names more over.kept over.has; read = over.read }),
    are.2.2,
  ),
  pieces_behind v names more (drop p.len bytes) ps are.3,
)

-- past the first of them
pub others_in_front : (names : NameTable) (old new : Reached) (p : ReadPiece) (ps : List ReadPiece) → StandInFront names old (p ∷ ps) → new.stage ≡ old.stage → new.idle ≡ old.idle
    → new.place.start ≡ old.place.start + p.len → new.place.limit ≡ old.place.limit → new.place.ahead ≡ drop p.len old.place.ahead → StandInFront (with_table names p.told.names) new ps
others_in_front names old new p ps all stage idle start limit ahead = record {
  version = all.version;
  stage = stage ∙ all.stage;
  idle = idle ∙ all.idle;
  front = drop p.len all.front;
  more = all.more;
  ahead = ahead ∙ ap (drop p.len) all.ahead ∙ drop-append-le p.len all.front all.more all.read.0;
  within = omega (arith, all.within, all.read.0, start, limit, length-drop p.len all.front);
  read = pieces_behind all.version names p.told.names (drop p.len all.front) ps all.read.3;
}

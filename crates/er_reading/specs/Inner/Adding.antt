-- Pieces of the lines in front of a reader.
use Rattle.std.specs.Prelude.{◌≡◌, ◌+◌, ◌<◌, ◌≤◌, ◌^◌, ◌++◌, ℕ, true, List, [], ◌∷◌, length}
use Rattle.std.specs.List.{All}
use Rattle.er_text.specs.declared.stages.Stage.TheVariants.{Events}
use Rattle.er_text.specs.declared.verbs.Version.{Version}
use Rattle.er_text.specs.Pieces.{ReadPiece, IsEntered, IsNumbered, IsReady}
use Rattle.er_text.specs.Places.{Reached}
use Rattle.er_trace.specs.Appended.{with_table}
use Rattle.er_trace.specs.Names.{NameTable}
use Rattle.er_trace.specs.Trace.{Recording}
use Rattle.er_reading.specs.Pieces.{ArePiecesOf}

-- the reader has come to event lines, and no thread is idle; the pieces were read, behind these names, of the bytes in front, which are within its limit
pub record StandInFront (names : NameTable) (reader : Reached) (pieces : List ReadPiece) : Type 0 where
  pub version : Version
  pub stage : reader.stage ≡ Events version
  pub idle : reader.idle ≡ []
  pub front : List ℕ
  pub more : List ℕ
  pub ahead : reader.place.ahead ≡ front ++ more
  pub within : reader.place.start + length front ≤ reader.place.limit
  pub read : ArePiecesOf version names front pieces

-- all of the piece was read
abbrev pub IsWhole : ReadPiece → Type 0
IsWhole p = p.whole ≡ true

-- how many bytes the first piece has
abbrev pub first_len : List ReadPiece → ℕ
first_len [] = 0
first_len (p ∷ ps) = p.len

-- the numbers of the pieces' lines fit, each counted from behind so many lines and those of the pieces before it
abbrev pub FitBehind : ℕ → List ReadPiece → Type 0
FitBehind before [] = Unit {0}
FitBehind before (p ∷ ps) = All (λ line. before + line < 2 ^ 64) p.told.lines × (before + p.lines < 2 ^ 64) × FitBehind (before + p.lines) ps

-- the names that have appeared once those of the pieces have
abbrev pub names_behind : NameTable → List ReadPiece → NameTable
names_behind names [] = names
names_behind names (p ∷ ps) = names_behind (with_table names p.told.names) ps

-- each piece knows the numbers of its names behind those of the pieces before it, and how many lines stand before its own
abbrev pub AreEntered : ℕ → NameTable → List ReadPiece → List ReadPiece → Type 0
AreEntered before names [] [] = Unit {0}
AreEntered before names [] (q ∷ qs) = ⊥
AreEntered before names (p ∷ ps) [] = ⊥
AreEntered before names (p ∷ ps) (q ∷ qs) = IsEntered before (with_table names p.told.names) p q × AreEntered (before + p.lines) (with_table names p.told.names) ps qs

-- each piece is numbered by what it knows
abbrev pub AreNumbered : List ReadPiece → List ReadPiece → Type 0
AreNumbered [] [] = Unit {0}
AreNumbered [] (q ∷ qs) = ⊥
AreNumbered (p ∷ ps) [] = ⊥
AreNumbered (p ∷ ps) (q ∷ qs) = IsNumbered p q × AreNumbered ps qs

-- each piece that was read has come to one whose steps have their numbers
abbrev pub AreReady : ℕ → NameTable → List ReadPiece → List ReadPiece → Type 0
AreReady before names [] [] = Unit {0}
AreReady before names [] (q ∷ qs) = ⊥
AreReady before names (p ∷ ps) [] = ⊥
AreReady before names (p ∷ ps) (q ∷ qs) = IsReady before (with_table names p.told.names) p q × AreReady (before + p.lines) (with_table names p.told.names) ps qs

-- the pieces stand in front of a reader, and are ready for a trace that has their names already
pub record MayAllBeAdded (reader : Reached) (trace : Recording) (pieces : List ReadPiece) : Type 0 where
  pub read : List ReadPiece
  pub names : NameTable
  pub front : StandInFront names reader read
  pub whole : All IsWhole read
  pub ready : AreReady reader.place.number names read pieces
  pub named : trace.names ≡ names_behind names read

-- Pieces of a text, which are read apart from what stands before them.
use Rattle.std.specs.Prelude.{◌≡◌, ℕ, ◌+◌, ◌<◌, ◌≤◌, ◌^◌, Bool, true, List, [], Option, None, length, map, take}
use Rattle.std.specs.List.{All}
use Rattle.er_event.specs.declared.steps.Step.{Step}
use Rattle.er_trace.specs.Appended.{AreNumbers, BeginAnew, HasAll, renumbered_site, renumbered_step}
use Rattle.er_trace.specs.Names.{NameTable}
use Rattle.er_trace.specs.Trace.{Recording, IsNamed, HasSiteName, no_steps}
use Rattle.er_trace.specs.declared.appending.NewTable.{NewTable}
use Rattle.er_text.specs.declared.endings.Lost.{Lost}
use Rattle.er_text.specs.declared.verbs.Version.{Version}
use Rattle.er_text.specs.declared.stages.Stage.TheVariants.{Events}
use Rattle.er_text.specs.Ending.{comment_after}
use Rattle.er_lines.specs.Lines.{Line, lines_of, placed_from, AreWhole}
use Rattle.er_text.specs.Places.{Reached}
use Rattle.er_text.specs.Inner.Pieces.{AreRead}

-- a reader that has come no further, and has perhaps read other bytes ahead
pub record StaysAt (old new : Reached) : Type 0 where
  pub limit : new.place.limit ≡ old.place.limit
  pub number : new.place.number ≡ old.place.number
  pub start : new.place.start ≡ old.place.start
  pub stage : new.stage ≡ old.stage
  pub idle : new.idle ≡ old.idle
  pub tail : new.tail ≡ old.tail

-- what was read of a piece: its steps under names of its own, their lines counted from 0, how many lines and bytes it has, whether all of it was
-- read, and what its last comment says, whose line is counted from 0 too; then the numbers that its names have in the trace that it is added to, how many lines of that text stand before its own, and its steps, lines
-- and sites by these numbers
pub record ReadPiece : Type 0 where
  pub told : Recording
  pub lines : ℕ
  pub len : ℕ
  pub whole : Bool
  pub comment : Option Lost
  pub numbers : NewTable
  pub before : ℕ
  pub steps : List Step
  pub places : List ℕ
  pub sites : List ℕ

-- the piece was read of these lines, over no names but some of these
pub record IsReadOver (v : Version) (names : NameTable) (lines : List Line) (piece : ReadPiece) : Type 0 where
  pub kept : NameTable
  pub has : HasAll names kept
  pub read : AreRead v lines 0 (record no_steps { names = kept }) piece.lines piece.told

-- the piece was read of these lines, over names that begin anew over these and had been its own before
pub record IsReadAnew (v : Version) (names own : NameTable) (lines : List Line) (piece : ReadPiece) : Type 0 where
  pub kept : NameTable
  pub begin : BeginAnew names own kept
  pub read : AreRead v lines 0 (record no_steps { names = kept }) piece.lines piece.told

-- the piece is these bytes, and if all of it was read, it says what they say behind these names
abbrev pub IsPieceOf : Version → NameTable → List ℕ → ReadPiece → Type 0
IsPieceOf v names bytes piece =
    (piece.len ≡ length bytes) × (piece.whole ≡ true → IsReadOver v names (lines_of bytes) piece)
    × (piece.whole ≡ true → piece.comment ≡ comment_after None (placed_from 0 0 (lines_of bytes)))

-- the piece was read, behind these names, of the lines in front of a reader that has come to event lines, and no thread is idle
pub record StandsInFront (names : NameTable) (reader : Reached) (piece : ReadPiece) : Type 0 where
  pub version : Version
  pub stage : reader.stage ≡ Events version
  pub idle : reader.idle ≡ []
  pub fits : piece.len ≤ length reader.place.ahead
  pub lines : AreWhole (take piece.len reader.place.ahead)
  pub within : reader.place.start + piece.len ≤ reader.place.limit
  pub read : IsPieceOf version names (take piece.len reader.place.ahead) piece

-- the piece knows the numbers that its names have among these, and how many lines stand before its own
pub record IsEntered (before : ℕ) (names : NameTable) (old new : ReadPiece) : Type 0 where
  pub numbers : AreNumbers new.numbers old.told.names names
  pub before_is : new.before ≡ before
  pub told : new.told ≡ old.told
  pub lines : new.lines ≡ old.lines
  pub len : new.len ≡ old.len
  pub comment : new.comment ≡ old.comment

-- it can be numbered by what it knows
pub record CanBeNumbered (piece : ReadPiece) : Type 0 where
  pub names : NameTable
  pub numbers : AreNumbers piece.numbers piece.told.names names
  pub fits : All (λ line. piece.before + line < 2 ^ 64) piece.told.lines

-- its steps and sites have the numbers that it knows, and its lines are counted from behind those before
pub record IsNumbered (old new : ReadPiece) : Type 0 where
  pub steps : (names : NameTable) → AreNumbers old.numbers old.told.names names → new.steps ≡ map (renumbered_step old.told.names names) old.told.steps
  pub places : new.places ≡ map (λ line. old.before + line) old.told.lines
  pub sites : (names : NameTable) → AreNumbers old.numbers old.told.names names → new.sites ≡ map (renumbered_site old.told.names.sites names.sites) old.told.sites
  pub level : length new.places ≡ length new.steps
  pub level_sites : length new.sites ≡ length new.steps
  pub named : All (IsNamed old.told.names) old.told.steps
  pub named_sites : All (HasSiteName old.told.names) old.told.sites
  pub lines : new.lines ≡ old.lines
  pub len : new.len ≡ old.len
  pub comment : new.comment ≡ old.comment

-- a piece that was read has come to this one, whose steps and sites have their numbers among these names
pub record IsReady (before : ℕ) (names : NameTable) (old new : ReadPiece) : Type 0 where
  pub steps : new.steps ≡ map (renumbered_step old.told.names names) old.told.steps
  pub places : new.places ≡ map (λ line. before + line) old.told.lines
  pub sites : new.sites ≡ map (renumbered_site old.told.names.sites names.sites) old.told.sites
  pub level : length new.places ≡ length new.steps
  pub level_sites : length new.sites ≡ length new.steps
  pub named : All (IsNamed old.told.names) old.told.steps
  pub named_sites : All (HasSiteName old.told.names) old.told.sites
  pub lines : new.lines ≡ old.lines
  pub len : new.len ≡ old.len
  pub comment : new.comment ≡ old.comment

-- it stands in front of a reader, all of it was read, and the trace that it is added to has names for its steps and sites
pub record MayBeAdded (reader : Reached) (trace : Recording) (piece : ReadPiece) : Type 0 where
  pub read : ReadPiece
  pub before : NameTable
  pub names : NameTable
  pub front : StandsInFront before reader read
  pub whole : read.whole ≡ true
  pub ready : IsReady reader.place.number names read piece
  pub named : All (IsNamed trace.names) piece.steps
  pub named_sites : All (HasSiteName trace.names) piece.sites

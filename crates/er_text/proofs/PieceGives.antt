-- A piece of the lines in front gives what a reading of these lines gives.
use Rattle.std.proofs.Common.{◌≡◌, ℕ, ◌+◌, ◌^◌, ◌&&◌, nat_eq, ◌<◌, ◌≤◌, Bool, true, false, List, [], ◌∷◌, ◌++◌, append_assoc, length, map, take, drop, Option, Some, None, IfSome, Ok, refl, subst, sym, ap, ◌∙◌, arith}
use Rattle.std.proofs.lemmas.Bool.Decides.{nat_tests}
use Rattle.std.proofs.lemmas.List.{take-append-drop, length-take-le}
use Rattle.std.proofs.lemmas.List.Elements.{All-nil}
use Rattle.std.specs.List.{All}
use Rattle.er_event.specs.declared.steps.Step.{Step}
use Rattle.er_trace.specs.Appended.{appended, renumbered_step, with_table}
use Rattle.er_trace.specs.Names.{NameTable}
use Rattle.er_trace.specs.Trace.{Recording, IsNamed, HasSiteName, no_steps, with_steps}
use Rattle.er_text.specs.declared.endings.Lost.{Lost}
use Rattle.er_text.specs.declared.reading.Batch.TheVariants.{More}
use Rattle.er_text.specs.declared.stages.Stage.{Stage}
use Rattle.er_text.specs.declared.stages.Stage.TheVariants.{Events}
use Rattle.er_text.specs.declared.verbs.Version.{Version}
use Rattle.er_text.specs.Batches.{HasRead}
use Rattle.er_text.specs.Ending.{is_cut_after, comment_after}
use Rattle.er_lines.specs.Lines.{Line, lines_of, placed_from, AreWhole}
use Rattle.er_text.specs.Pieces.{ReadPiece, StandsInFront, IsReady}
use Rattle.er_lines.specs.Places.{Place}
use Rattle.er_text.specs.Places.{Tail, Reached}
use Rattle.er_text.specs.Inner.Endings.{tail_after, BatchesTail}
use Rattle.er_lines.specs.Lending.{lines_left, past_lines}
use Rattle.er_text.specs.Inner.Pieces.{AreRead, comment_behind}
use Rattle.er_lines.specs.Reading.{read_lines}
use Rattle.er_text.specs.Inner.Traces.{at_line, progress, read_content, Batches}
use Rattle.er_trace.proofs.AppendedSteps.{nothing_appended}
use Rattle.er_text.proofs.BatchLaws.{batch_gives}
use Rattle.er_text.proofs.CommentLemmas.{comments_on, comments_above, IsAbove}
use Rattle.er_text.proofs.PieceLaws.{Named, lines_on, cut_on, same_cut, lines_below, few_lines}
use Rattle.er_lines.proofs.WholeLemmas.{lines_append, widths, widths_all}

and_false : (b : Bool) → (b && false) ≡ false
and_false true = refl
and_false false = refl

and_true : (b : Bool) → (b && true) ≡ b
and_true true = refl
and_true false = refl

-- nothing but names
abbrev bare : NameTable → Recording
bare names = record no_steps { names = names }

none_named : (names : NameTable) → Named (bare names)
none_named names = record { steps = All-nil (IsNamed names); sites = All-nil (HasSiteName names) }

-- the lines in front, and those behind them
split_lines : (at : Place) (len : ℕ) (ys : List ℕ) → AreWhole (take len at.ahead) → lines_of (at.ahead ++ ys) ≡ lines_of (take len at.ahead) ++ lines_of (drop len at.ahead ++ ys)
split_lines at len ys whole =
    ap (λ (b : List ℕ). lines_of (b ++ ys)) (sym (take-append-drop len at.ahead))
    ∙ ap lines_of (append_assoc (take len at.ahead) (drop len at.ahead) ys)
    ∙ lines_append (take len at.ahead) (drop len at.ahead ++ ys) whole

-- the bytes of the lines in front
front_widths : (at : Place) (len : ℕ) → len ≤ length at.ahead → widths (lines_of (take len at.ahead)) ≡ len
front_widths at len fits = widths_all (take len at.ahead) ∙ length-take-le len at.ahead fits

-- what stands behind a reader once it has passed over a piece
abbrev pub past_piece : Reached → ReadPiece → Tail → Reached
past_piece old piece tail = record { place = past_lines old.place piece.lines piece.len; stage = old.stage; idle = old.idle; tail = tail }

reads_front : (old : Reached) (piece : ReadPiece) (t : Recording) (front : StandsInFront t.names old piece) → piece.whole ≡ true → (ys : List ℕ)
    → read_lines old.place.limit read_content (placed_from old.place.number old.place.start (lines_of (old.place.ahead ++ ys))) (at_line old.place.number (Events front.version) [] t)
    ≡ read_lines old.place.limit read_content (placed_from (old.place.number + piece.lines) (old.place.start + piece.len) (lines_of (drop piece.len old.place.ahead ++ ys)))
    (at_line (old.place.number + piece.lines) (Events front.version) [] (appended old.place.number t piece.told))
reads_front old piece t front whole ys =
    let at = old.place in
    let lines = lines_of (take piece.len at.ahead) in
    let size = front_widths at piece.len front.fits in
    let number : at.number ≡ at.number + 0 = omega arith in
    let within : at.start + widths lines ≤ at.limit = let room = front.within in omega (arith, size, room) in
    let over = front.read.1 whole in
    ap (λ (ls : List Line). read_lines at.limit read_content (placed_from at.number at.start ls) (at_line at.number (Events front.version) [] t)) (split_lines at piece.len ys front.lines)
    ∙ ap (λ (u : Recording). read_lines at.limit read_content (placed_from at.number at.start (lines ++ lines_of (drop piece.len at.ahead ++ ys))) (at_line at.number (Events front.version) [] u))
    (sym (nothing_appended at.number t over.kept over.has))
    ∙ lines_on front.version at.number at.limit 0 piece.lines at.number at.start t (bare over.kept) piece.told lines (lines_of (drop piece.len at.ahead ++ ys)) number (none_named over.kept) over.read within
    ∙ ap (λ (w : ℕ). read_lines at.limit read_content (placed_from (at.number + piece.lines) (at.start + w) (lines_of (drop piece.len at.ahead ++ ys)))
    (at_line (at.number + piece.lines) (Events front.version) [] (appended at.number t piece.told))) size

reads_known : (old : Reached) (piece : ReadPiece) (tail : Tail) (t : Recording) (front : StandsInFront t.names old piece) → piece.whole ≡ true → (known : Option (List ℕ))
    → Batches old.place.limit (lines_left old.place known) (lines_left (past_piece old piece tail).place known) (progress old t)
    (progress (past_piece old piece tail) (appended old.place.number t piece.told)) (Ok More)
reads_known old piece tail t front whole None = tt
reads_known old piece tail t front whole (Some ys) =
    let P : Stage → List Bool → Type 0 = λ stage idle.
    read_lines old.place.limit read_content (placed_from old.place.number old.place.start (lines_of (old.place.ahead ++ ys))) (at_line old.place.number stage idle t)
    ≡ read_lines old.place.limit read_content (placed_from (old.place.number + piece.lines) (old.place.start + piece.len) (lines_of (drop piece.len old.place.ahead ++ ys)))
    (at_line (old.place.number + piece.lines) stage idle (appended old.place.number t piece.told)) in
    subst (λ (idle : List Bool). P old.stage idle) (sym front.idle) (subst (λ (stage : Stage). P stage []) (sym front.stage) (reads_front old piece t front whole ys))

-- whether the last line lacks its LF, behind so many bytes of whole lines
abbrev pub cut_past : ℕ → Bool → Bool → Type 0
cut_past len before cut = (0 < len → cut ≡ false) × (len ≡ 0 → cut ≡ before)

-- no bytes, no lines
lines_cut : (v : Version) (m k j start to len : ℕ) (q t : Recording) (bytes : List ℕ) (lines more : List Line) (before cut : Bool) → lines_of bytes ≡ lines → length bytes ≡ len
    → AreRead v lines 0 q m t → cut_past len before cut
    → is_cut_after before (placed_from k start (lines ++ more)) ≡ is_cut_after cut (placed_from j to more)
lines_cut v m k j start to len q t bytes [] more before cut is size are past =
    let none : len ≡ 0 = sym size ∙ sym (widths_all bytes) ∙ ap widths is in
    same_cut k j start to more before ∙ ap (λ (b : Bool). is_cut_after b (placed_from j to more)) (sym (past.1 none))
lines_cut v m k j start to len q t [] (line ∷ lines) more before cut is size are past = absurd (cc)
lines_cut v m k j start to len q t (b ∷ bytes) (line ∷ lines) more before cut is size are past =
    let some : 0 < len = omega (arith, size) in
    cut_on v 0 m k j start to q t line lines more before are
    ∙ ap (λ (c : Bool). is_cut_after c (placed_from j to more)) (sym (past.0 some))

-- how the lines end behind a piece
pub record IsPast (old : Reached) (piece : ReadPiece) (tail : Tail) : Type 0 where
  pub cut : cut_past piece.len old.tail.cut tail.cut
  pub comment : tail.comment ≡ comment_behind old.place.number old.tail.comment piece.comment

tails_known : (names : NameTable) (old : Reached) (piece : ReadPiece) (tail : Tail) (front : StandsInFront names old piece) → piece.whole ≡ true → IsPast old piece tail → (known : Option (List ℕ))
    → BatchesTail (lines_left old.place known) (lines_left (past_piece old piece tail).place known) old.tail tail (Ok More)
tails_known names old piece tail front whole past None = tt
tails_known names old piece tail front whole past (Some ys) =
    let at = old.place in
    let over = front.read.1 whole in
    let lines = lines_of (take piece.len at.ahead) in
    let more = lines_of (drop piece.len at.ahead ++ ys) in
    let number : at.number ≡ at.number + 0 = omega arith in
    let cut = lines_cut front.version piece.lines at.number (at.number + piece.lines) at.start (at.start + piece.len) piece.len (bare over.kept) piece.told (take piece.len at.ahead)
    lines more old.tail.cut tail.cut refl (length-take-le piece.len at.ahead front.fits) over.read past.cut in
    let comment = comments_on front.version at.number 0 piece.lines at.number at.start 0 (at.start + piece.len) (bare over.kept) piece.told lines more old.tail.comment None number over.read
    ∙ ap (λ (c : Option Lost). comment_after (comment_behind at.number old.tail.comment c) (placed_from (at.number + piece.lines) (at.start + piece.len) more)) (sym (front.read.2 whole))
    ∙ ap (λ (c : Option Lost). comment_after c (placed_from (at.number + piece.lines) (at.start + piece.len) more)) (sym past.comment) in
    ap (λ (ls : List Line). tail_after old.tail (placed_from at.number at.start ls)) (split_lines at piece.len ys front.lines)
    ∙ ap (λ (b : Bool). record { cut = b; comment = comment_after old.tail.comment (placed_from at.number at.start (lines ++ more)) }) cut
    ∙ ap (λ (c : Option Lost). record { cut = is_cut_after tail.cut (placed_from (at.number + piece.lines) (at.start + piece.len) more); comment = c }) comment

-- what was read of the text goes on behind a piece
pub piece_gives : (text : List ℕ) (steps : List Step) (lines sites : List ℕ) (old : Reached) (piece : ReadPiece) (tail : Tail) (known : Option (List ℕ)) (t : Recording)
    → StandsInFront t.names old piece → piece.whole ≡ true → IsPast old piece tail → HasRead text steps lines sites old known t
    → HasRead text steps lines sites (past_piece old piece tail) known (appended old.place.number t piece.told)
piece_gives text steps lines sites old piece tail known t front whole past read =
    batch_gives text steps lines sites old (past_piece old piece tail) known known t (appended old.place.number t piece.told) (Ok More) refl read
    (reads_known old piece tail t front whole known) (tails_known t.names old piece tail front whole past known)

-- a piece has no more lines than bytes
pub piece_few : (names : NameTable) (old : Reached) (piece : ReadPiece) → StandsInFront names old piece → piece.whole ≡ true → piece.lines ≤ piece.len
piece_few names old piece front whole =
    let over = front.read.1 whole in
    let few = few_lines front.version 0 piece.lines (bare over.kept) piece.told (lines_of (take piece.len old.place.ahead)) over.read in
    let size = front_widths old.place piece.len front.fits in
    omega (arith, few, size)

-- and its lines have small numbers
pub piece_small : (names : NameTable) (old : Reached) (piece : ReadPiece) → StandsInFront names old piece → piece.whole ≡ true → All (λ line. line < piece.lines) piece.told.lines
piece_small names old piece front whole =
    let over = front.read.1 whole in
    lines_below front.version 0 piece.lines (bare over.kept) piece.told (lines_of (take piece.len old.place.ahead)) over.read (All-nil (λ line. line < 0))

-- the same of what the code has, which keeps the mark of a line without its LF if there is no byte
pub added_gives : (text : List ℕ) (steps : List Step) (lines sites : List ℕ) (old : Reached) (at : Place) (piece : ReadPiece) (before : ℕ) (tail : Tail) (known : Option (List ℕ)) (t u : Recording)
    → StandsInFront t.names old piece → piece.whole ≡ true → before ≡ old.place.number → u ≡ appended before t piece.told → at ≡ past_lines old.place piece.lines piece.len
    → tail.cut ≡ (old.tail.cut && nat_eq piece.len 0) → tail.comment ≡ comment_behind before old.tail.comment piece.comment → HasRead text steps lines sites old known t
    → HasRead text steps lines sites (record { place = at; stage = old.stage; idle = old.idle; tail = tail }) known u
added_gives text steps lines sites old at piece before tail known t u front whole number told passed is says read =
    let cut : cut_past piece.len old.tail.cut tail.cut = (
      (λ some. is ∙ (let other : nat_eq piece.len 0 ≡ false = grind (arith, nat_tests, some) in rw other (and_false old.tail.cut))),
      (λ none. is ∙ (rw none (and_true old.tail.cut))),
    ) in
    let past : IsPast old piece tail = record { cut = cut; comment = says ∙ ap (λ (n : ℕ). comment_behind n old.tail.comment piece.comment) number } in
    let same : u ≡ appended old.place.number t piece.told = told ∙ ap (λ (n : ℕ). appended n t piece.told) number in
    subst (λ (r : Recording). HasRead text steps lines sites (record { place = at; stage = old.stage; idle = old.idle; tail = tail }) known r) (sym same)
    (subst (λ (p : Place). HasRead text steps lines sites (record { place = p; stage = old.stage; idle = old.idle; tail = tail }) known (appended old.place.number t piece.told)) (sym passed)
    (piece_gives text steps lines sites old piece tail known t front whole past read))

-- the numbers of the piece's lines fit behind those of the text
pub piece_fits : (names : NameTable) (old : Reached) (piece : ReadPiece) (before : ℕ) → StandsInFront names old piece → piece.whole ≡ true → before ≤ old.place.limit + 1 → old.place.limit ≤ 2 ^ 62
    → All (λ line. before + line < 2 ^ 64) piece.told.lines
piece_fits names old piece before front whole number limit i d h =
    let small = piece_small names old piece front whole i d h in
    let few = piece_few names old piece front whole in
    let within = front.within in
    omega (arith, small, few, within, number, limit)

fits_above : (before lines : ℕ) (comment : Option Lost) → before + lines < 2 ^ 64 → IsAbove lines comment → IfSome comment (λ lost. before + lost.line < 2 ^ 64)
fits_above before lines None fits above = tt
fits_above before lines (Some lost) fits above = omega (arith, fits, above)

-- and so does the number of its comment
pub comment_fits : (names : NameTable) (old : Reached) (piece : ReadPiece) (before : ℕ) → StandsInFront names old piece → piece.whole ≡ true → before ≤ old.place.limit + 1 → old.place.limit ≤ 2 ^ 62
    → IfSome piece.comment (λ lost. before + lost.line < 2 ^ 64)
comment_fits names old piece before front whole number limit =
    let over = front.read.1 whole in
    let above = comments_above front.version 0 piece.lines 0 (bare over.kept) piece.told (lines_of (take piece.len old.place.ahead)) None over.read tt in
    let few = piece_few names old piece front whole in
    let within = front.within in
    fits_above before piece.lines piece.comment (omega (arith, few, within, number, limit)) (subst (λ (c : Option Lost). IsAbove piece.lines c) (sym (front.read.2 whole)) above)

-- steps, their lines, sites and names
abbrev parts : List Step → List ℕ → List ℕ → NameTable → Recording
parts steps lines sites names = record { steps = steps; lines = lines; sites = sites; names = names }

-- a trace to which the steps of a piece were added, under the names that were there before and those of the piece
pub ready_appended : (before : ℕ) (t u : Recording) (names : NameTable) (read piece : ReadPiece) (steps : List Step) (lines sites : List ℕ)
    → u ≡ with_steps t steps lines sites → steps ≡ piece.steps → lines ≡ piece.places → sites ≡ piece.sites → IsReady before (with_table names read.told.names) read piece
    → record u { names = with_table names read.told.names } ≡ appended before (record t { names = names }) read.told
ready_appended before t u names read piece steps lines sites added stepped lined sited ready =
    let all : NameTable = with_table names read.told.names in
    let stepped_on : List Step = map (renumbered_step read.told.names all) read.told.steps in
    ap (λ (r : Recording). record r { names = all }) added
    ∙ ap (λ (s : List Step). parts (t.steps ++ s) (t.lines ++ lines) (t.sites ++ sites) all) (stepped ∙ ready.steps)
    ∙ ap (λ (l : List ℕ). parts (t.steps ++ stepped_on) (t.lines ++ l) (t.sites ++ sites) all) (lined ∙ ready.places)
    ∙ ap (λ (n : List ℕ). parts (t.steps ++ stepped_on) (t.lines ++ map (λ line. before + line) read.told.lines) (t.sites ++ n) all) (sited ∙ ready.sites)

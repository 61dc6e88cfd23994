-- The piece comes behind what was read.
use Rattle.std.proofs.Common.{◌≡◌, ℕ, ◌+◌, ◌<◌, ◌≤◌, ◌^◌, ◌&&◌, nat_eq, Option, IfSome, refl, subst, sym, ap, ◌∙◌, arith, rules}
use Rattle.er_text.specs.Batches.{HasRead}
use Rattle.er_text.specs.declared.endings.Lost.{Lost}
use Rattle.er_lines.specs.Lending.{past_lines}
use Rattle.er_text.specs.Inner.Pieces.{comment_behind}
use Rattle.er_text.specs.Pieces.{ReadPiece, StandsInFront, IsReady}
use Rattle.er_text.specs.Places.{Tail, Reached}
use Rattle.er_trace.specs.Appended.{with_table}
use Rattle.er_trace.specs.Trace.{Recording}
use Rattle.er_text.proofs.PieceGives.{added_gives, comment_fits, piece_few, ready_appended}
use Rattle.er_text.proofs.reading.TraceReader.add_piece.Goals as goal
use Rattle.er_text.proofs.reading.TraceReader.add_piece.Goals.{then-self, else-self}

pub pass_lines-requires-clause-lines : goal.pass_lines-requires-clause-lines
pass_lines-requires-clause-lines c =
    let few = piece_few c.requires.before c.args.self.now c.requires.read c.requires.front c.requires.whole in
    let ready = c.requires.ready in
    let same : c.args.piece.now.lines ≤ c.args.piece.now.len = omega (arith, few, ready.lines, ready.len) in
    subst (λ (p : ReadPiece). p.lines ≤ p.len) (sym c.piece.view_is) same

pub comment_behind-self-inside-requires : goal.comment_behind-self-inside-requires
comment_behind-self-inside-requires c =
    let inside : Reached = record { place = c.self.inside.lines; stage = c.self.inside.header.stage; idle = c.self.inside.header.idle; tail = record { cut = c.self.inside.cut; comment = c.self.inside.header.comment } } in
    let read = c.requires.read in
    let fits = comment_fits c.requires.before inside read c.number-line.result (subst (λ (r : Reached). StandsInFront c.requires.before r read) (sym c.self.view_is) c.requires.front) c.requires.whole c.number-line.ensures.bound c.number-line.ensures.most_limit in
    let same : c.args.piece.now.comment ≡ read.comment = c.requires.ready.comment in
    subst (λ (p : ReadPiece). IfSome p.comment (λ lost. c.number-line.result + lost.line < 2 ^ 64)) (sym c.piece.view_is)
    (subst (λ (l : Option Lost). IfSome l (λ lost. c.number-line.result + lost.line < 2 ^ 64)) (sym same) fits)

pub returns-clause-told : goal.returns-clause-told
returns-clause-told c = λ text steps lines sites known names read front whole ready had.
    let inside : Reached = record { place = c.self.inside.lines; stage = c.self.inside.header.stage; idle = c.self.inside.header.idle; tail = record { cut = c.self.inside.cut; comment = c.self.inside.header.comment } } in
    let t : Recording = record c.args.trace.now { names = names } in
    let u : Recording = record c.give_steps.new.trace { names = with_table names read.told.names } in
    let piece : ReadPiece = c.args.piece.now in
    let known_ready : IsReady inside.place.number (with_table names read.told.names) read piece =
    subst (λ (r : Reached). IsReady r.place.number (with_table names read.told.names) read piece) (sym c.self.view_is) ready in
    let told = ready_appended inside.place.number c.args.trace.now c.give_steps.new.trace names read piece piece.steps piece.places piece.sites
    c.in_ok-give_steps.ensures refl refl refl known_ready in
    let passed : c.pass_lines.new.self ≡ past_lines inside.place read.lines read.len =
    c.pass_lines.ensures ∙ ap (λ (p : ReadPiece). past_lines inside.place p.lines p.len) c.piece.view_is
    ∙ ap (λ (n : ℕ). past_lines inside.place n piece.len) known_ready.lines ∙ ap (λ (n : ℕ). past_lines inside.place read.lines n) known_ready.len in
    let one : c.if-self.self ≡ (inside.tail.cut && nat_eq c.piece.inside.len 0) = elim c.if-self.branch [ then-self w ↦ search rules | else-self w ↦ search rules ] in
    let cut : c.if-self.self ≡ (inside.tail.cut && nat_eq read.len 0) = one ∙ ap (λ (p : ReadPiece). inside.tail.cut && nat_eq p.len 0) c.piece.view_is ∙ ap (λ (n : ℕ). inside.tail.cut && nat_eq n 0) known_ready.len in
    let comment : c.comment_behind-self-inside.result ≡ comment_behind inside.place.number inside.tail.comment read.comment =
    c.comment_behind-self-inside.ensures
    ∙ ap (λ (p : ReadPiece). comment_behind c.number-line.result inside.tail.comment p.comment) c.piece.view_is
    ∙ ap (λ (n : ℕ). comment_behind n inside.tail.comment piece.comment) c.number-line.ensures.value
    ∙ ap (λ (l : Option Lost). comment_behind inside.place.number inside.tail.comment l) known_ready.comment in
    let tail : Tail = record { cut = c.if-self.self; comment = c.comment_behind-self-inside.result } in
    added_gives text steps lines sites inside c.pass_lines.new.self read inside.place.number tail known t u
    (subst (λ (r : Reached). StandsInFront names r read) (sym c.self.view_is) front) whole refl told passed cut comment
    (subst (λ (r : Reached). HasRead text steps lines sites r known t) (sym c.self.view_is) had)

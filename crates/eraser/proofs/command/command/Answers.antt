-- Each request leaves its own notes, a word asks for what a request does, and wrong arguments leave no note.
use Rattle.std.proofs.Common.{◌≡◌, ◌||◌, ◌∙◌, ℕ, Bool, List, Option, IfSome, ap, false, option_map, subst, sym}
use Rattle.er_binary.specs.Decoded.{source_of, to_come}
use Rattle.er_binary.specs.Meaning.{meant}
use Rattle.er_device.specs.Device.{inner_of, has_failed}
use Rattle.er_exit.specs.Lines.{fault_line}
use Rattle.er_exit.specs.Writes.{GetsLine}
use Rattle.er_request.specs.Words.{IsUsual, names_hints, names_until_fault}
use Rattle.eraser.specs.Printing.{PrintsTo}
use Rattle.eraser.specs.Replays.{ComesTo}
use Rattle.eraser.proofs.EndLemmas.{for-text}
use Rattle.eraser.proofs.NoteLemmas.{more-notes, none-written, not-asked}
use Rattle.eraser.proofs.PrintLemmas.{never-two, prints-to}
use Rattle.eraser.proofs.TextLemmas.{of-bytes}
use Rattle.eraser.proofs.command.command.Goals as goal

pub returns-in-Ok-Replay-clause-usual : goal.returns-in-Ok-Replay-clause-usual
returns-in-Ok-Replay-clause-usual g c input =
    let asked : IsUsual c.in-Ok-Replay.asked × (c.in-Ok-Replay.asked.hints ≡ c.args.on_terminal) = (rw c.in-Ok-Replay.field-0-is at c.in-Ok-Replay.ensures.asks) input in
    let decoded = inner_of c.prepare.new.source in
    let known = g.I.Read.remaining (source_of decoded) in
    let P : Bool → List ℕ → Type 0 = λ people text. ComesTo people text (has_failed c.run_asked-replayed.new.input) (has_failed c.run_asked-replayed.new.output) (g.O.Write.contents (inner_of c.args.output.now)) (g.O.Write.contents (inner_of c.run_asked-replayed.new.output))
    (g.E.Write.contents (inner_of c.args.errors.now)) (g.E.Write.contents (inner_of c.end_replay-status.new.errors)) (has_failed c.end_replay-status.new.errors) c.end_replay-status.result in
    subst (λ (o : Option (List ℕ)). IfSome o (λ bytes. P c.args.on_terminal (meant bytes))) (ap g.I.Read.remaining c.prepare.ensures.source)
    (of-bytes known (to_come decoded) meant (P c.args.on_terminal) (λ bytes. c.prepare.ensures.text bytes ∙ c.requires.fresh bytes)
    (for-text (option_map (to_come decoded) known) (λ text ends. subst (λ people. P people text) (c.run_asked-replayed.ensures.same.0 ∙ asked.1) (c.end_replay-status.ensures.usual text _ _ _ _ ends))
    (c.run_asked-replayed.ensures.usual asked.0)))

pub returns-in-Ok-Replay-clause-quiet : goal.returns-in-Ok-Replay-clause-quiet
returns-in-Ok-Replay-clause-quiet g c le =
    let asks = rw c.in-Ok-Replay.field-0-is at c.in-Ok-Replay.ensures.hints in
    more-notes c.run_asked-replayed.new.replay.hints (names_hints c.args.words.now || c.args.on_terminal) (λ is. asks (sym c.run_asked-replayed.ensures.same.0 ∙ is))
    (g.E.Write.contents (inner_of c.args.errors.now)) (g.E.Write.contents (inner_of c.end_replay-status.new.errors)) (has_failed c.end_replay-status.new.errors) (c.end_replay-status.ensures.quiet le)

pub returns-in-Ok-Replay-clause-refused : goal.returns-in-Ok-Replay-clause-refused
returns-in-Ok-Replay-clause-refused g c unnamed two =
    let unasked : c.in-Ok-Replay.asked.until_fault ≡ false =
    not-asked c.in-Ok-Replay.asked.until_fault (names_until_fault c.args.words.now) (rw c.in-Ok-Replay.field-0-is at c.in-Ok-Replay.ensures.until_fault) unnamed in
    c.end_replay-status.ensures.refused (g.O.Write.contents (inner_of c.args.output.now)) (g.O.Write.contents (inner_of c.run_asked-replayed.new.output))
    (c.run_asked-replayed.ensures.nothing unasked) two

pub returns-in-Ok-Explain-clause-quiet : goal.returns-in-Ok-Explain-clause-quiet
returns-in-Ok-Explain-clause-quiet g c le =
    none-written (names_hints c.args.words.now || c.args.on_terminal) (g.E.Write.contents (inner_of c.args.errors.now)) (g.E.Write.contents (inner_of c.end.new.errors)) (has_failed c.end.new.errors) (c.end.ensures.quiet le)

pub returns-in-Ok-Demo-clause-quiet : goal.returns-in-Ok-Demo-clause-quiet
returns-in-Ok-Demo-clause-quiet g c le =
    none-written (names_hints c.args.words.now || c.args.on_terminal) (g.E.Write.contents (inner_of c.args.errors.now)) (g.E.Write.contents (inner_of c.end-in-Ok-Demo.new.errors)) (has_failed c.end-in-Ok-Demo.new.errors)
    (c.end-in-Ok-Demo.ensures.quiet le)

pub returns-in-Err-clause-quiet : goal.returns-in-Err-clause-quiet
returns-in-Err-clause-quiet g c le =
    none-written (names_hints c.args.words.now || c.args.on_terminal) (g.E.Write.contents (inner_of c.args.errors.now)) (g.E.Write.contents (inner_of c.refused-status.new.errors)) (has_failed c.refused-status.new.errors) (c.refused-status.ensures.quiet le)

pub returns-in-Ok-Print-clause-printed : goal.returns-in-Ok-Print-clause-printed
returns-in-Ok-Print-clause-printed g c input =
    let decoded = inner_of c.args.input.now in
    let known = g.I.Read.remaining (source_of decoded) in
    let asked = (rw c.in-Ok-Print.field-0-is at c.in-Ok-Print.ensures.prints) input in
    of-bytes known (to_come decoded) meant (λ text. PrintsTo text (has_failed c.print_trace.new.output) (g.O.Write.contents (inner_of c.args.output.now)) (g.O.Write.contents (inner_of c.print_trace.new.output))
    (g.E.Write.contents (inner_of c.args.errors.now)) (g.E.Write.contents (inner_of c.end-in-Ok-Print.new.errors)) (has_failed c.end-in-Ok-Print.new.errors) c.end-in-Ok-Print.result) c.requires.fresh
    (for-text (option_map (to_come decoded) known) (λ text wrote. prints-to text _ _ _ _ _ _ _ c.print_trace.result wrote c.print_trace.ensures.failed c.print_trace.ensures.status
    c.end-in-Ok-Print.ensures.given c.end-in-Ok-Print.ensures.quiet c.end-in-Ok-Print.ensures.fault) (c.print_trace.ensures.text asked.1))

pub returns-in-Ok-Print-clause-quiet : goal.returns-in-Ok-Print-clause-quiet
returns-in-Ok-Print-clause-quiet g c le =
    none-written (names_hints c.args.words.now || c.args.on_terminal) (g.E.Write.contents (inner_of c.args.errors.now)) (g.E.Write.contents (inner_of c.end-in-Ok-Print.new.errors)) (has_failed c.end-in-Ok-Print.new.errors)
    (c.end-in-Ok-Print.ensures.quiet le)

pub returns-in-Ok-Print-clause-refused : goal.returns-in-Ok-Print-clause-refused
returns-in-Ok-Print-clause-refused g c unnamed two =
    never-two (λ why. GetsLine (g.E.Write.contents (inner_of c.args.errors.now)) (g.E.Write.contents (inner_of c.end-in-Ok-Print.new.errors)) (fault_line why) (has_failed c.end-in-Ok-Print.new.errors))
    c.end-in-Ok-Print.result c.print_trace.result c.print_trace.ensures.status c.end-in-Ok-Print.ensures.given c.print_trace.ensures.fault c.end-in-Ok-Print.ensures.fault two

pub returns-in-Ok-Merge-clause-quiet : goal.returns-in-Ok-Merge-clause-quiet
returns-in-Ok-Merge-clause-quiet g c le =
    none-written (names_hints c.args.words.now || c.args.on_terminal) (g.E.Write.contents (inner_of c.args.errors.now)) (g.E.Write.contents (inner_of c.end-in-Ok-Merge.new.errors)) (has_failed c.end-in-Ok-Merge.new.errors)
    (c.end-in-Ok-Merge.ensures.quiet le)

-- The options and the heading are those that are asked for, and without files of suppressions there are no rules.
use Rattle.std.proofs.Common.{◌∙◌, List, ℕ, subst, sym}
use Rattle.er_device.specs.Device.{has_failed, inner_of}
use Rattle.er_exit.specs.Parts.{IsHeading}
use Rattle.er_rules.specs.Rules.{targets_of}
use Rattle.eraser.specs.Replays.{EndsAs, headed_part}
use Rattle.eraser.proofs.EndLemmas.{under-rules, usually}
use Rattle.eraser.proofs.command.run_replay.Goals as goal

pub returns-clause-usual : goal.returns-clause-usual
returns-clause-usual g c usual =
    let headed : IsHeading (headed_part c.args.replay.now) c.args.replay.now.explain c.deref-3.result.now
    = subst (λ (line : List ℕ). IsHeading (headed_part c.args.replay.now) c.args.replay.now.explain line) (sym c.deref-3.ensures.value) (rw c.headed_part-part.ensures at c.in-Ok-heading_of.ensures.heading) in
    usually _ _ g.R.File.Read.remaining c.args.replay.now (g.I.Read.remaining (inner_of c.args.input.now)) (g.O.Write.contents (inner_of c.args.output.now))
    (g.O.Write.contents (inner_of c.replay_trace-replayed.new.output)) (has_failed c.replay_trace-replayed.new.input) (has_failed c.replay_trace-replayed.new.output) (targets_of c.in-Ok.suppressions) c.replay_trace-replayed.result usual (c.in-Ok.ensures.none (c.deref.ensures.value ∙ usual.suppressions))
    (rw c.options_of-options.ensures.limit at (c.replay_trace-replayed.ensures.ends usual.input (record { run = c.options_of-options.ensures.run; headed = headed }))) (rw c.options_of-options.ensures.limit at (c.replay_trace-replayed.ensures.fails usual.input usual.until_fault (record { run = c.options_of-options.ensures.run; headed = headed })))
    c.replay_trace-replayed.ensures.end (c.replay_trace-replayed.ensures.alone usual.until_fault) (c.replay_trace-replayed.ensures.failed usual.input usual.until_fault)

pub returns-clause-ends : goal.returns-clause-ends
returns-clause-ends g c =
    let headed : IsHeading (headed_part c.args.replay.now) c.args.replay.now.explain c.deref-3.result.now
    = subst (λ (line : List ℕ). IsHeading (headed_part c.args.replay.now) c.args.replay.now.explain line) (sym c.deref-3.ensures.value) (rw c.headed_part-part.ensures at c.in-Ok-heading_of.ensures.heading) in
    under-rules g.R.File.Read.remaining c.args.replay.now (g.I.Read.remaining (inner_of c.args.input.now)) (g.S.Shortcut.touches (inner_of c.args.input.now)) (targets_of c.in-Ok.suppressions)
    (λ rules ended text touches limit. EndsAs g.R.File.Read.remaining c.args.replay.now text touches limit rules (g.O.Write.contents (inner_of c.args.output.now)) (g.O.Write.contents (inner_of c.replay_trace-replayed.new.output)) ended)
    c.replay_trace-replayed.result (λ none. c.in-Ok.ensures.none (c.deref.ensures.value ∙ none))
    (λ input. rw c.options_of-options.ensures.limit at (c.replay_trace-replayed.ensures.ends input (record { run = c.options_of-options.ensures.run; headed = headed })))
    (λ file. c.replay_trace-replayed.ensures.file_ends file (record { run = c.options_of-options.ensures.run; headed = headed }))

pub returns-clause-fails : goal.returns-clause-fails
returns-clause-fails g c input none whole =
    let headed : IsHeading (headed_part c.args.replay.now) c.args.replay.now.explain c.deref-3.result.now
    = subst (λ (line : List ℕ). IsHeading (headed_part c.args.replay.now) c.args.replay.now.explain line) (sym c.deref-3.ensures.value) (rw c.headed_part-part.ensures at c.in-Ok-heading_of.ensures.heading) in
    rw (c.in-Ok.ensures.none (c.deref.ensures.value ∙ none), c.options_of-options.ensures.limit) at (c.replay_trace-replayed.ensures.fails input whole (record { run = c.options_of-options.ensures.run; headed = headed }))

pub returns-clause-file_fails : goal.returns-clause-file_fails
returns-clause-file_fails g c file none alone whole =
    let headed : IsHeading (headed_part c.args.replay.now) c.args.replay.now.explain c.deref-3.result.now
    = subst (λ (line : List ℕ). IsHeading (headed_part c.args.replay.now) c.args.replay.now.explain line) (sym c.deref-3.ensures.value) (rw c.headed_part-part.ensures at c.in-Ok-heading_of.ensures.heading) in
    rw (c.in-Ok.ensures.none (c.deref.ensures.value ∙ none)) at (c.replay_trace-replayed.ensures.file_fails file whole (record { run = c.options_of-options.ensures.run; headed = headed }))

pub returns-then-replay-clause-ends : goal.returns-then-replay-clause-ends
returns-then-replay-clause-ends g c =
    let headed : IsHeading (headed_part c.args.replay.now) c.args.replay.now.explain c.deref-3.result.now
    = subst (λ (line : List ℕ). IsHeading (headed_part c.args.replay.now) c.args.replay.now.explain line) (sym c.deref-3.ensures.value) (rw c.headed_part-part.ensures at c.in-Ok-heading_of.ensures.heading) in
    under-rules g.R.File.Read.remaining c.args.replay.now (g.I.Read.remaining (inner_of c.args.input.now)) (g.S.Shortcut.touches (inner_of c.args.input.now)) (targets_of c.in-Ok.suppressions)
    (λ rules ended text touches limit. EndsAs g.R.File.Read.remaining c.args.replay.now text touches limit rules (g.O.Write.contents (inner_of c.args.output.now)) (g.O.Write.contents (inner_of c.replay_trace-shown.new.output)) ended)
    c.replay_trace-shown.result (λ none. c.in-Ok.ensures.none (c.deref.ensures.value ∙ none))
    (λ input. rw c.options_of-options.ensures.limit at (c.replay_trace-shown.ensures.ends input (record { run = c.options_of-options.ensures.run; headed = headed })))
    (λ file. c.replay_trace-shown.ensures.file_ends file (record { run = c.options_of-options.ensures.run; headed = headed }))

pub returns-then-replay-clause-fails : goal.returns-then-replay-clause-fails
returns-then-replay-clause-fails g c input none whole =
    let headed : IsHeading (headed_part c.args.replay.now) c.args.replay.now.explain c.deref-3.result.now
    = subst (λ (line : List ℕ). IsHeading (headed_part c.args.replay.now) c.args.replay.now.explain line) (sym c.deref-3.ensures.value) (rw c.headed_part-part.ensures at c.in-Ok-heading_of.ensures.heading) in
    rw (c.in-Ok.ensures.none (c.deref.ensures.value ∙ none), c.options_of-options.ensures.limit) at (c.replay_trace-shown.ensures.fails input whole (record { run = c.options_of-options.ensures.run; headed = headed }))

pub returns-then-replay-clause-file_fails : goal.returns-then-replay-clause-file_fails
returns-then-replay-clause-file_fails g c file none alone whole =
    let headed : IsHeading (headed_part c.args.replay.now) c.args.replay.now.explain c.deref-3.result.now
    = subst (λ (line : List ℕ). IsHeading (headed_part c.args.replay.now) c.args.replay.now.explain line) (sym c.deref-3.ensures.value) (rw c.headed_part-part.ensures at c.in-Ok-heading_of.ensures.heading) in
    rw (c.in-Ok.ensures.none (c.deref.ensures.value ∙ none)) at (c.replay_trace-shown.ensures.file_fails file whole (record { run = c.options_of-options.ensures.run; headed = headed }))

-- A line in its usual form, after which the thread of the last step acts.
use Rattle.std.proofs.Common.{ap, ◌∙◌}
use Rattle.er_text.specs.Inner.Idle.{last_actor}
use Rattle.er_text.proofs.UsualLemmas.{usual_line_read}
use Rattle.er_text.proofs.reading.Header.read_usual.Goals as goal

pub returns-clause-read : goal.returns-clause-read
returns-clause-read c =
    let adds = rw c.if-not-branch.false at c.in_ok-add_usual.ensures in
    usual_line_read c.args.line c.args.self.now.stage c.in-Events.version c.args.bytes.now c.args.self.now.idle c.remove_last.new.self c.args.trace.now c.add_usual.new.trace c.in-Events.is adds
    (λ thread last. c.remove_last.ensures thread (ap last_actor c.steps.ensures.value ∙ last))

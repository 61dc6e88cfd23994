-- What was written is of the text that a file means.
use Rattle.std.proofs.Common.{inr}
use Rattle.er_device.specs.Device.{inner_of}
use Rattle.eraser.specs.Stories.{EndsStory}
use Rattle.eraser.proofs.TextLemmas.{of-file, unread-in}
use Rattle.eraser.proofs.traces.explain_step.Goals as goal

pub returns-clause-file : goal.returns-clause-file
returns-clause-file g c file =
    inr (of-file g.R.File.Read.remaining (inner_of c.new-source.result)
    (λ text. EndsStory text c.args.asked.now.byte_limit c.args.asked.now.line (g.O.Write.contents (inner_of c.args.output.now)) (g.O.Write.contents (inner_of c.explain_from-told.new.output)) c.explain_from-told.result)
    (unread-in c.new-source.result c.in_ok-open_trace.field-0 c.new-source.ensures c.in_ok-open_trace.ensures.fresh).0 c.explain_from-told.ensures.story)

-- What was written is of the text that a file means.
use Rattle.std.proofs.Common.{inr}
use Rattle.er_device.specs.Device.{inner_of}
use Rattle.eraser.specs.Printing.{WritesText}
use Rattle.eraser.proofs.TextLemmas.{of-file, unread-in}
use Rattle.eraser.proofs.traces.print_trace.Goals as goal

pub returns-clause-file : goal.returns-clause-file
returns-clause-file g c file =
    inr (of-file g.R.File.Read.remaining (inner_of c.new-source.result) (λ text. WritesText text (g.O.Write.contents (inner_of c.args.output.now)) (g.O.Write.contents (inner_of c.print_text-printed.new.output)) c.print_text-printed.result)
    (unread-in c.new-source.result c.in_ok-open_trace.field-0 c.new-source.ensures c.in_ok-open_trace.ensures.fresh).0 c.print_text-printed.ensures.text)

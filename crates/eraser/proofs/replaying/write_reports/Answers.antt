-- What was made was written, or a beginning of it, or nothing for want of memory.
use Rattle.std.proofs.Common.{◌∙◌, ap, Err}
use Rattle.er_device.specs.Device.{inner_of}
use Rattle.er_rules.specs.Rules.{targets_of}
use Rattle.eraser.proofs.DeliverLemmas.{delivered, no-memory}
use Rattle.eraser.proofs.replaying.write_reports.Goals as goal

pub returns-in-Ok-clause-shown : goal.returns-in-Ok-clause-shown
returns-in-Ok-clause-shown g c by = rw c.in-Ok.is at (delivered g.R.File.Read.remaining c.args.job.replay.now c.args.job.options.now.byte_limit c.args.names.now (targets_of c.args.job.suppressions.now) c.args.reports.now c.places_of-places.result c.deref.result.now
    c.args.job.heading.now (g.O.Write.contents (inner_of c.args.output.now)) (g.O.Write.contents (inner_of c.write_headed.new.output)) c.render-text.result (λ t. t.items) c.write_headed.result
    c.places_of-places.ensures (λ none. c.deref.ensures.value ∙ c.in_ok-excerpts.ensures.none none) by.headed c.render-text.ensures c.write_headed.ensures.bytes c.write_headed.ensures.memory)

pub returns-in-Err-Memory-clause-nothing : goal.returns-in-Err-Memory-clause-nothing
returns-in-Err-Memory-clause-nothing g c =
    no-memory c.args.job.heading.now (g.O.Write.contents (inner_of c.args.output.now)) (g.O.Write.contents (inner_of c.write_headed.new.output)) c.render-text.result (λ t. t.items) c.write_headed.result
    (c.in-Err-Memory.is ∙ ap Err c.in-Err-Memory.field-0-is) c.write_headed.ensures.bytes

pub returns-in-Err-Memory-clause-shown : goal.returns-in-Err-Memory-clause-shown
returns-in-Err-Memory-clause-shown g c by =
    no-memory c.args.job.heading.now (g.O.Write.contents (inner_of c.args.output.now)) (g.O.Write.contents (inner_of c.write_headed.new.output)) c.render-text.result (λ t. t.items) c.write_headed.result
    (c.in-Err-Memory.is ∙ ap Err c.in-Err-Memory.field-0-is) c.write_headed.ensures.bytes

pub returns-in-Err-Write-clause-shown : goal.returns-in-Err-Write-clause-shown
returns-in-Err-Write-clause-shown g c by = rw (c.in-Err-Write.is, c.in-Err-Write.field-0-is) at (delivered g.R.File.Read.remaining c.args.job.replay.now c.args.job.options.now.byte_limit c.args.names.now (targets_of c.args.job.suppressions.now) c.args.reports.now c.places_of-places.result c.deref.result.now
    c.args.job.heading.now (g.O.Write.contents (inner_of c.args.output.now)) (g.O.Write.contents (inner_of c.write_headed.new.output)) c.render-text.result (λ t. t.items) c.write_headed.result
    c.places_of-places.ensures (λ none. c.deref.ensures.value ∙ c.in_ok-excerpts.ensures.none none) by.headed c.render-text.ensures c.write_headed.ensures.bytes c.write_headed.ensures.memory)

use Rattle.std.proofs.Common.{◌∙◌}
use Rattle.er_report.proofs.summary.summarise.Goals as goal

pub add_steps-added-requires : goal.add_steps-added-requires
add_steps-added-requires c = record {
  answers = c.requires.answers;
  begun = c.in_ok-builder.ensures.built c.args.trace.now;
  locks = c.new-locks.ensures;
}

pub stop_line-requires : goal.stop_line-requires
stop_line-requires c = c.requires.stop

pub returns-in-Ok-clause-report : goal.returns-in-Ok-clause-report
returns-in-Ok-clause-report c = rw (c.in-Ok.ensures.rules ∙ c.in_ok-builder.ensures.rules, c.in-Ok.ensures.explains ∙ c.in_ok-builder.ensures.explains) at (c.finish_explained.ensures.report c.args.trace.now c.args.outcome.now.stopped c.in-Ok.ensures.reported c.stop_line.ensures)

pub returns-in-Ok-clause-named : goal.returns-in-Ok-clause-named
returns-in-Ok-clause-named c = c.finish_explained.ensures.named c.args.trace.now _ c.in-Ok.ensures.reported c.steps.ensures.named c.sites.ensures.named

use Rattle.std.proofs.Common.{ℕ, ap, ◌∙◌}
use Rattle.er_event.specs.declared.steps.Event.{Event}
use Rattle.er_event.specs.declared.steps.Step.{Step}
use Rattle.er_trace.specs.Appended.{renumbered}
use Rattle.er_trace.proofs.RenumberingLemmas.{number_at}
use Rattle.er_trace.proofs.appending.NewTable.step.Goals as goal

-- a step by a thread
abbrev step : ℕ → Event → Step
step thread event = record { thread = thread; event = event }

pub returns : goal.returns
returns c = λ old new are named.
    ap (λ (n : ℕ). step n c.event.result) (c.thread.ensures ∙ number_at c.args.self.now.threads old.threads new.threads c.args.step.thread are.threads named.thread)
    ∙ ap (step (renumbered old.threads new.threads c.args.step.thread)) (c.event.ensures old new are named.event)

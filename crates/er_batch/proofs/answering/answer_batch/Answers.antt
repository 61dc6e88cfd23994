-- A run that has stopped stays where it is, and one that hasn't goes on to the end of the batch or to a stop in it.
use Rattle.std.proofs.Common.{◌≡◌, ◌∙◌, Option, None, is_some, length, refl, sym, ap, subst}
use Rattle.er_batch.specs.Inner.Answering.{Answers, HasAnswered}
use Rattle.er_text.specs.Batches.{joined}
use Rattle.er_batch.proofs.BatchLemmas.{stays, goes, whole, part, none-by}
use Rattle.er_batch.proofs.answering.answer_batch.Goals as goal

pub returns-then-is_some-clause-run : goal.returns-then-is_some-clause-run
returns-then-is_some-clause-run c = λ past lines sites names kept run.
    stays past lines sites names c.args.trace.now kept (record { named = c.steps-steps.ensures.named; long = c.lines-lines.ensures.one_per_step; known = c.sites.ensures.named; one_each = c.sites.ensures.one_per_step }) c.args.machine.now c.args.builder.now c.args.stop run
    (λ none. absurd (let clash = sym c.if-is_some.true ∙ c.is_some.ensures ∙ ap (λ (o : Option _). is_some o) none in cc))

pub returns-in-Some-clause-run : goal.returns-in-Some-clause-run
returns-in-Some-clause-run c = λ past lines sites names kept run.
    let none : c.args.stop ≡ None = none-by c.args.stop (sym c.is_some.ensures ∙ c.if-is_some.false) in
    let before : HasAnswered c.args.machine.now c.args.builder.now (joined past lines sites c.args.trace.now) (length past) =
    goes past lines sites names c.args.trace.now kept (record { named = c.steps-steps.ensures.named; long = c.lines-lines.ensures.one_per_step; known = c.sites.ensures.named; one_each = c.sites.ensures.one_per_step }) c.args.machine.now c.args.builder.now c.args.stop run none in
    part past lines sites names c.args.trace.now kept (record { named = c.steps-steps.ensures.named; long = c.lines-lines.ensures.one_per_step; known = c.sites.ensures.named; one_each = c.sites.ensures.one_per_step }) c.args.machine.now c.args.builder.now c.args.stop run
    c.answer_steps.new.machine c.answer_steps.new.builder c.in-Some.field-0 _ (rw c.lines-lines.ensures.value refl)
    (subst (Answers c.answer_steps.new.machine c.answer_steps.new.builder (joined past lines sites c.args.trace.now) (length past)) c.in-Some.is (c.in_ok-at.ensures.run past lines sites run.formed.long run.formed.one_each before))

pub returns-in-None-clause-run : goal.returns-in-None-clause-run
returns-in-None-clause-run c = λ past lines sites names kept run.
    let none : c.args.stop ≡ None = none-by c.args.stop (sym c.is_some.ensures ∙ c.if-is_some.false) in
    let before : HasAnswered c.args.machine.now c.args.builder.now (joined past lines sites c.args.trace.now) (length past) =
    goes past lines sites names c.args.trace.now kept (record { named = c.steps-steps.ensures.named; long = c.lines-lines.ensures.one_per_step; known = c.sites.ensures.named; one_each = c.sites.ensures.one_per_step }) c.args.machine.now c.args.builder.now c.args.stop run none in
    whole past lines sites names c.args.trace.now kept (record { named = c.steps-steps.ensures.named; long = c.lines-lines.ensures.one_per_step; known = c.sites.ensures.named; one_each = c.sites.ensures.one_per_step }) c.args.machine.now c.args.builder.now c.args.stop run
    c.answer_steps.new.machine c.answer_steps.new.builder
    (subst (Answers c.answer_steps.new.machine c.answer_steps.new.builder (joined past lines sites c.args.trace.now) (length past)) c.in-None.is (c.in_ok-at.ensures.run past lines sites run.formed.long run.formed.one_each before))

use Rattle.std.proofs.Common.{Err, sym, ap, ◌∙◌}
use Rattle.er_load.proofs.JoinLemmas.{first-at, hands-first}
use Rattle.er_load.proofs.runs.all_seats.Goals as goal

pub returns-in_err-answer-clause-first : goal.returns-in_err-answer-clause-first
returns-in_err-answer-clause-first c =
    hands-first c.from_residual-in_err-answer.result _ c.args.answers.items c.from_residual-in_err-answer.ensures.1
    (λ why is. first-at c.args.answers.items _ _ c.loop-answer.seats.items c.in-Some.answer why c.loop-answer.invariant.split c.in-Some.ensures.steps.0 (c.in_err-answer.was ∙ ap Err (sym is)))

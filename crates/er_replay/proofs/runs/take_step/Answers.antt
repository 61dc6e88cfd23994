use Rattle.er_journal.specs.AnswerList.{is_state}
use Rattle.er_replay.specs.Standing.{holding, states}
use Rattle.er_replay.proofs.RunsLemmas.{on_err_unless}
use Rattle.er_event.proofs.Results.{on_err_of}
use Rattle.er_replay.proofs.StopsLemmas.{lacks}
use Rattle.er_replay.proofs.runs.take_step.Goals as goal

pub returns-in-Some-clause-stays : goal.returns-in-Some-clause-stays
returns-in-Some-clause-stays g c past stands = rw c.in-Some.ensures at (c.step-answer.ensures.err past stands)

pub returns-in-Some-clause-lacks : goal.returns-in-Some-clause-lacks
returns-in-Some-clause-lacks g c past stands =
    lacks (holding c.args.machine.now) (states c.args.machine.now) past c.args.step c.in-Some.cause c.step-answer.result stands c.in-Some.ensures
    c.step-answer.ensures.refused c.step-answer.ensures.room

pub returns-in_err-set-clause-stays : goal.returns-in_err-set-clause-stays
returns-in_err-set-clause-stays g c =
    on_err_of c.from_residual.result _ (λ past stands.
    c.step-answer.ensures.still (c.step-answer.ensures.shows (on_err_unless c.set.result _ (is_state c.step-answer.result) c.in_err-set.was c.set.ensures.free)) past stands)

pub returns-clause-goes_on : goal.returns-clause-goes_on
returns-clause-goes_on g c past stands = c.step-answer.ensures.goes_on past stands c.in_default.ensures

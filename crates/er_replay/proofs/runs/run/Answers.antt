use Rattle.std.proofs.Common.{[], ◌++◌, ◌+◌, length, take, ap, sym, ◌∙◌, refl, inr}
use Rattle.std.proofs.lemmas.Bool.{eqb-true}
use Rattle.std.proofs.lemmas.List.{nil_from_length, take_all, length-replicate}
use Rattle.er_replay.proofs.RunsLemmas.{taken-none, answered-none, found, next-stands, next-answers}
use Rattle.er_replay.proofs.runs.run.Goals as goal

pub returns-then-is_empty-clause-answers : goal.returns-then-is_empty-clause-answers
returns-then-is_empty-clause-answers g c past stands =
    answered-none past c.new.result c.args.steps.now c.new.ensures (nil_from_length c.args.steps.now (eqb-true (length c.args.steps.now) 0 (sym c.if-is_empty.ensures)))

pub returns-in_default-clause-answers : goal.returns-in_default-clause-answers
returns-in_default-clause-answers g c past stands = answered-none past c.new-in_default.result [] c.new-in_default.ensures refl

pub loop-at-init : goal.loop-at-init
loop-at-init g c = record {
  size = ap length c.in-Ok.ensures ∙ length-replicate (length c.args.steps.now) _;
  answers = λ past stands. answered-none past [] [] refl refl;
  stands = λ past stands. taken-none past c.args.machine.now stands;
}

pub returns-in-Err-clause-goes_on : goal.returns-in-Err-clause-goes_on
returns-in-Err-clause-goes_on g c past stands = c.in-Err.ensures.stays (past ++ take c.loop-at.at c.args.steps.now) (c.loop-at.invariant.stands past stands)

pub returns-in-Err-clause-cause : goal.returns-in-Err-clause-cause
returns-in-Err-clause-cause g c past stands =
    inr (rw (found [] c.args.steps.now c.loop-at.at c.index-steps-at.result c.loop-at-test.true c.index-steps-at.is)
    (c.in-Err.ensures.lacks (past ++ take c.loop-at.at c.args.steps.now) (c.loop-at.invariant.stands past stands)))

pub loop-at-preserved : goal.loop-at-preserved
loop-at-preserved g c = record {
  size = c.in_default-take_step.ensures.length ∙ c.loop-at.invariant.size;
  answers = λ past stands.
      ap (take (c.loop-at.at + 1)) (c.in_default-take_step.ensures.answer (past ++ take c.loop-at.at c.args.steps.now) (c.loop-at.invariant.stands past stands))
      ∙ next-answers past c.args.steps.now c.loop-at.at c.index-steps-at.result c.loop-at-test.true c.index-steps-at.is c.loop-at.answers c.loop-at.invariant.size (c.loop-at.invariant.answers past stands);
  stands = λ past stands.
      next-stands past c.args.steps.now c.loop-at.at c.index-steps-at.result c.loop-at-test.true c.index-steps-at.is c.take_step.new.machine
      (c.in_default-take_step.ensures.goes_on (past ++ take c.loop-at.at c.args.steps.now) (c.loop-at.invariant.stands past stands));
}

pub returns-clause-goes_on : goal.returns-clause-goes_on
returns-clause-goes_on g c past stands = rw (take_all c.loop-at.at c.args.steps.now c.loop-at-test.false) at (c.loop-at.invariant.stands past stands)

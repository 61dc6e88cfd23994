use Rattle.std.proofs.Common.{◌+◌, refl, arith, below_more, add-one}
use Rattle.std.proofs.lemmas.Option.{slice_get_read}
use Rattle.er_check.proofs.AccessLemmas.{held-start, held-next, step-marked}
use Rattle.er_check.proofs.ClaimLemmas.{agrees-step}
use Rattle.er_check.proofs.checking.all_agree.Goals as goal

pub loop-at-init : goal.loop-at-init
loop-at-init c = record { held = λ t. rw c.new-locks.ensures (held-start c.args.steps.now t); agrees = λ i below. absurd (omega arith) }

pub returns-then-not-step_agrees : goal.returns-then-not-step_agrees
returns-then-not-step_agrees c =
    let steps = c.args.steps.now in
    let here = slice_get_read steps _ c.loop-at.at c.index-steps-at.result refl (omega arith) c.index-steps-at.is in
    let mark = rw (← c.get.ensures) at (step-marked c.loop-at.locks steps c.loop-at.at c.loop-at.invariant.held _ here) in (
      λ yes. cc,
      λ all. absurd (let is = c.step_agrees.ensures.1 (λ low access. rw (← mark) (all c.loop-at.at (omega arith))) in cc),
    )

pub loop-at-preserved : goal.loop-at-preserved
loop-at-preserved c =
    let steps = c.args.steps.now in
    let here = slice_get_read steps _ c.loop-at.at c.index-steps-at.result refl (omega arith) c.index-steps-at.is in
    let mark = rw (← c.get.ensures) at (step-marked c.loop-at.locks steps c.loop-at.at c.loop-at.invariant.held _ here) in record {
      held = λ t. held-next c.loop-at.locks steps c.loop-at.at c.loop-at.invariant.held _ here c.follow.new.self c.in_ok-follow.ensures.threads (c.loop-at.at + 1) t (add-one c.loop-at.at);
      agrees = below_more _ _ c.loop-at.invariant.agrees
          (agrees-step steps c.args.word c.args.claims.now.start c.args.k c.args.claims.now.first_thread c.args.claims.now.explanation.now c.requires.named c.loop-at.at _ here
          (λ low access. rw mark (c.step_agrees.ensures.0 c.if-not-step_agrees.false low access)));
    }

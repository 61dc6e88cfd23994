use Rattle.std.proofs.Common.{◌≡◌, ap, get_or, subst, sym, ◌∙◌}
use Rattle.std.proofs.lemmas.List.{length-set}
use Rattle.er_event.specs.declared.steps.Step.{Step}
use Rattle.er_trace.specs.Appended.{renumbered_step}
use Rattle.er_trace.specs.Trace.{IsNamed}
use Rattle.er_trace.proofs.SameLemmas.{steps_stay}
use Rattle.er_trace.proofs.InPlaceLemmas.{same_read, rest_still, front_on}
use Rattle.er_trace.proofs.appending.NewTable.number_steps.Goals as goal

pub returns-then-are_same : goal.returns-then-are_same
returns-then-are_same c = λ old new are named.
    let same = c.are_same.ensures c.if-are_same.true in
    steps_stay c.args.self.now old new c.args.steps.now same.0 same.1 same.2 are named

pub step-requires : goal.step-requires
step-requires c =
    let old = c.loop-at.invariant in
    let s = c.index-steps-at.result in
    let same : s ≡ get_or c.args.steps.now c.loop-at.at s = c.index-steps-at.is ∙ same_read c.args.steps.now c.loop-at.steps c.loop-at.at old.len c.loop-at-test.true old.rest s in
    (c.requires.0, c.requires.1, c.requires.2, subst (λ (t : Step). IsNamed c.requires.0 t) (sym same) (c.requires.3 c.loop-at.at s c.loop-at-test.true))

pub loop-at-preserved : goal.loop-at-preserved
loop-at-preserved c =
    let so_far = c.loop-at.invariant in
    let xs = c.args.steps.now in
    let ys = c.loop-at.steps in
    let s = c.index-steps-at.result in
    let same : s ≡ get_or xs c.loop-at.at s = c.index-steps-at.is ∙ same_read xs ys c.loop-at.at so_far.len c.loop-at-test.true so_far.rest s in
    record {
      len = length-set ys c.loop-at.at c.step.result ∙ so_far.len;
      done = λ old new are named.
          let here : IsNamed old s = subst (λ (t : Step). IsNamed old t) (sym same) (named c.loop-at.at s c.loop-at-test.true) in
          front_on xs ys c.loop-at.at so_far.len c.loop-at-test.true so_far.rest (renumbered_step old new) c.step.result s (so_far.done old new are named)
          (c.step.ensures old new are here ∙ ap (renumbered_step old new) same);
      rest = rest_still xs ys c.loop-at.at so_far.len c.loop-at-test.true so_far.rest c.step.result;
    }

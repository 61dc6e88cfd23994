use Rattle.std.proofs.Common.{◌≡◌, ◌∙◌, ◌<◌, ◌≤◌, Some, slice_get, length, refl, sym, arith}
use Rattle.std.proofs.lemmas.Option.{slice_get_read}
use Rattle.er_story.proofs.HoldingLemmas.{held-start, held-next, held-own, held-other}
use Rattle.er_story.proofs.telling.held_before.Goals.{then-eq+in_ok-follow, else-eq}
use Rattle.er_story.proofs.telling.held_before.Goals as goal

pub loop-at-init : goal.loop-at-init
loop-at-init c = held-start c.args.steps.now c.args.thread c.new-held.result c.new-held.ensures

pub loop-at-preserved : goal.loop-at-preserved
loop-at-preserved c =
    let before : c.loop-at.at < c.args.end = c.loop-at-test.true in
    let within : c.args.end ≤ length c.args.steps.now = c.requires in
    let here : slice_get c.args.steps.now c.loop-at.at ≡ Some c.index-steps-at.result =
    slice_get_read c.args.steps.now (length c.args.steps.now) c.loop-at.at c.index-steps-at.result refl (omega arith) c.index-steps-at.is in
    let step = c.index-steps-at.result in
    held-next c.args.steps.now c.args.thread c.loop-at.at step c.loop-at.held _ here c.loop-at.invariant
    (elim c.if-eq.branch [
      | then-eq+in_ok-follow w ↦ held-own c.args.thread step c.loop-at.held _ (sym c.eq.ensures ∙ w.if-eq.true) (w.held-is ∙ w.in_ok-follow.ensures.ok)
      | else-eq w ↦ held-other c.args.thread step c.loop-at.held _ (sym c.eq.ensures ∙ w.if-eq.false) w.held-is
    ])

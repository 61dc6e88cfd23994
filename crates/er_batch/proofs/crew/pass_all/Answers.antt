-- One more step is followed.
use Rattle.std.proofs.Common.{◌≡◌, ◌∙◌, ◌+◌, ◌++◌, ℕ, length, slice_get, Some, true, refl, subst, arith}
use Rattle.std.proofs.lemmas.Option.{slice_get_read}
use Rattle.er_event.proofs.Lists.{get_behind}
use Rattle.er_event.specs.declared.steps.Step.{Step}
use Rattle.er_batch.specs.Inner.Items.{Holds}
use Rattle.er_batch.proofs.CrewLemmas.{holds-next}
use Rattle.er_batch.proofs.crew.pass_all.Goals as goal

pub loop-k-preserved : goal.loop-k-preserved
loop-k-preserved c = λ past before.
    let k : ℕ = c.loop-k.k in
    let step : Step = c.index-steps-k.result in
    let here : slice_get c.args.steps.now k ≡ Some step = slice_get_read c.args.steps.now _ k step refl (omega (arith, c.loop-k-test.true, c.requires.within.1)) c.index-steps-k.is in
    let one : length past + k + 1 ≡ length past + (k + 1) = omega arith in
    subst (λ (n : ℕ). Holds true c.pass.new.self (past ++ c.args.steps.now) n) one
    (holds-next true c.loop-k.holder c.pass.new.self (past ++ c.args.steps.now) (length past + k) step (get_behind past c.args.steps.now k (length past + k) refl ∙ here)
    c.in_ok-pass.ensures.holdings (c.loop-k.invariant past before))

use Rattle.std.proofs.Common.{◌≡◌, Some, sym, ap, ◌∙◌}
use Rattle.er_text.specs.Inner.Idle.{without_idle, last_actor}
use Rattle.er_text.proofs.IdleLemmas.{last_is}
use Rattle.er_text.proofs.stages.IdleThreads.remove_last.Goals as goal

pub returns-in-Some : goal.returns-in-Some
returns-in-Some c thread last =
    let step = c.in-Some.step.now in
    let found : last_actor c.args.steps.now ≡ Some step.thread = last_is c.args.steps.now step (sym c.in-Some.ensures.value) in
    let same : step.thread ≡ thread = let e = sym found ∙ last in cc in
    c.remove.ensures ∙ ap (without_idle c.args.self.now) same

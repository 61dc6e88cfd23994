use Rattle.std.proofs.Common.{◌≡◌, Bool, List, length, sym, ap, ◌∙◌, arith}
use Rattle.er_text.specs.Inner.Idle.{without_idle}
use Rattle.er_text.proofs.IdleLemmas.{set_idle, same_idle}
use Rattle.er_text.proofs.stages.IdleThreads.remove.Goals as goal

pub returns-then-place-len : goal.returns-then-place-len
returns-then-place-len c =
    let items = c.self.inside.flags.items in
    set_idle items c.number-place.result ∙ ap (without_idle items) c.number-place.ensures.value ∙ ap (λ (bs : List Bool). without_idle bs c.args.thread) c.self.view_is

pub returns-else-place-len : goal.returns-else-place-len
returns-else-place-len c =
    let items = c.self.inside.flags.items in
    let len : c.len.result ≡ length items = omega (arith, c.len.ensures) in
    let test = c.if-place-len.false in
    sym c.self.view_is ∙ sym (same_idle items c.number-place.result (omega (arith, len, test)))
    ∙ ap (without_idle items) c.number-place.ensures.value ∙ ap (λ (bs : List Bool). without_idle bs c.args.thread) c.self.view_is

use Rattle.std.proofs.Common.{◌≡◌, ◌≤◌, ◌-◌, ◌++◌, ◌∷◌, [], Bool, true, false, List, take, replicate, length, ap, ◌∙◌, arith}
use Rattle.std.specs.Vec.{vec_len}
use Rattle.er_text.specs.Inner.Idle.{with_idle}
use Rattle.er_text.proofs.IdleLemmas.{set_more, with_more}
use Rattle.er_text.proofs.stages.IdleThreads.add.Goals as goal

pub returns-then-place-len : goal.returns-then-place-len
returns-then-place-len c =
    let items = c.self.inside.flags.items in
    let len : c.len.result ≡ length items = omega (arith, c.len.ensures) in
    let test = c.if-place-len.true in
    set_more items c.number-place.result (omega (arith, len, test)) ∙ ap (with_idle items) c.number-place.ensures.value ∙ ap (λ (bs : List Bool). with_idle bs c.args.thread) c.self.view_is

pub returns : goal.returns
returns c =
    let items = c.self.inside.flags.items in
    let place = c.number-place.result in
    let len : c.len.result ≡ length items = omega (arith, c.len.ensures) in
    let test = c.if-place-len.false in
    let past : length items ≤ place = omega (arith, len, test) in
    let same : vec_len c.self.inside.flags ≡ length items = omega arith in
    let more : (take place items ++ replicate (place - vec_len c.self.inside.flags) false) ++ true ∷ [] ≡ with_idle items place = rw same (with_more items place past) in
    c.in_ok-push.ensures.items ∙ ap (λ (bs : List Bool). bs ++ true ∷ []) c.in_ok-resize.ensures.items ∙ more
    ∙ ap (with_idle items) c.number-place.ensures.value ∙ ap (λ (bs : List Bool). with_idle bs c.args.thread) c.self.view_is

use Rattle.std.proofs.Common.{◌≡◌, Bool, false, List, nat_lt, length, sym, ap, ◌∙◌, arith}
use Rattle.std.proofs.lemmas.Bool.Decides.{nat_tests}
use Rattle.er_text.specs.Inner.Idle.{is_idle}
use Rattle.er_text.proofs.IdleLemmas.{idle_at, idle_no}
use Rattle.er_text.proofs.stages.IdleThreads.contains.Goals as goal

pub returns-then-place-len : goal.returns-then-place-len
returns-then-place-len c =
    let items = c.self.inside.flags.items in
    let len : c.len.result ≡ length items = omega (arith, c.len.ensures) in
    let test = c.if-place-len.true in
    c.index.ensures ∙ idle_at items c.number-place.result c.index.result.now (omega (arith, len, test))
    ∙ ap (is_idle items) c.number-place.ensures.value ∙ ap (λ (bs : List Bool). is_idle bs c.args.thread) c.self.view_is

pub returns-else-place-len : goal.returns-else-place-len
returns-else-place-len c =
    let items = c.self.inside.flags.items in
    let len : c.len.result ≡ length items = omega (arith, c.len.ensures) in
    let test = c.if-place-len.false in
    let no : nat_lt c.number-place.result c.len.result ≡ false = grind (arith, nat_tests, test) in
    no ∙ sym (idle_no items c.number-place.result (omega (arith, len, test)))
    ∙ ap (is_idle items) c.number-place.ensures.value ∙ ap (λ (bs : List Bool). is_idle bs c.args.thread) c.self.view_is

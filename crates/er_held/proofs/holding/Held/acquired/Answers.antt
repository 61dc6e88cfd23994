use Rattle.std.proofs.Common.{arith}
use Rattle.er_held.proofs.HeldLemmas.{holding-room, holding-counted}
use Rattle.er_held.proofs.holding.Held.acquired.Goals as goal

pub overflow_sub-result : goal.overflow_sub-result
overflow_sub-result c =
    omega (arith, holding-room c.self.inside.any_mode _ c.self.inside.level c.self.invariant, c.len.ensures, c.from.ensures, c.number.ensures.value)

pub returns : goal.returns
returns c =
    let counted = holding-counted c.self.inside.any_mode _ c.self.inside.level c.self.invariant in
    rw (← c.self.view_is) (omega (arith, counted, c.len.ensures, c.from.ensures, c.number.ensures.value))

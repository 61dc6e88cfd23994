use Rattle.std.proofs.Common.{sym, ◌∙◌}
use Rattle.er_held.proofs.HeldLemmas.{holding-nothing}
use Rattle.er_held.proofs.holding.Held.new.Goals as goal

pub invariant_of-result : goal.invariant_of-result
invariant_of-result c = holding-nothing c.new.result c.new.result c.default.result c.new.ensures c.new.ensures (sym c.default.ensures.1 ∙ c.default.ensures.2)

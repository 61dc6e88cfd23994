use Rattle.std.proofs.Common.{refl, sym, subst}
use Rattle.er_trace.specs.Inner.Recent.{AreDistinct}
use Rattle.er_trace.proofs.names.CachedNames.new.Goals as goal

pub invariant_of-result : goal.invariant_of-result
invariant_of-result c = (c.new-2.ensures c.new.result, c.none.ensures c.new.result, subst AreDistinct (sym c.new.ensures) refl)

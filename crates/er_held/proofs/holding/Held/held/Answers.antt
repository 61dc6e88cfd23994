use Rattle.er_held.proofs.HeldLemmas.{holding-length}
use Rattle.er_held.proofs.holding.Held.held.Goals as goal

pub returns-clause-limit : goal.returns-clause-limit
returns-clause-limit c = rw (← c.self.view_is) (holding-length c.self.inside.any_mode _ c.self.inside.level c.self.invariant)

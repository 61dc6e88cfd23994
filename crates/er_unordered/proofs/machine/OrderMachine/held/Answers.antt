use Rattle.std.proofs.Common.{◌∙◌, ap}
use Rattle.er_unordered.specs.Standing.{Ordered, holding}
use Rattle.er_unordered.proofs.machine.OrderMachine.held.Goals as goal

pub returns : goal.returns
returns g c past tags touched stands = c.get.ensures.found ∙ ap (λ (machine : Ordered g.row.A.Denot). holding machine c.args.thread) c.self.view_is ∙ stands.held c.args.thread

use Rattle.std.proofs.Common.{◌∙◌, ap}
use Rattle.er_replay.specs.Standing.{Replayed, holding}
use Rattle.er_replay.proofs.machine.MachineIn.held.Goals as goal

pub returns-clause-past : goal.returns-clause-past
returns-clause-past g c past stands = c.get.ensures.found ∙ ap (λ (machine : Replayed). holding machine c.args.thread) c.self.view_is ∙ stands.0 c.args.thread

pub returns-clause-own : goal.returns-clause-own
returns-clause-own g c = c.get.ensures.found ∙ ap (λ (machine : Replayed). holding machine c.args.thread) c.self.view_is

use Rattle.er_unordered.proofs.StandingLemmas.{stands-start}
use Rattle.er_unordered.proofs.machine.OrderMachine.keyed.Goals as goal

pub returns : goal.returns
returns g c tags touched = stands-start _ c.new.ensures c.keyed.ensures c.keyed-2.ensures.follows tags touched

use Rattle.er_replay.proofs.MachineLemmas.{stands-start}
use Rattle.er_replay.proofs.machine.MachineIn.over.Goals as goal

pub returns : goal.returns
returns g c = stands-start _ _ c.new.ensures c.requires.virgin

use Rattle.std.proofs.Common.{refl}
use Rattle.er_damage.proofs.StandLemmas.{stands-start}
use Rattle.er_damage.proofs.inspector.Inspector.new.Goals as goal

pub returns : goal.returns
returns c = stands-start _ c.new.ensures c.new-2.ensures.items c.new-3.ensures.items refl refl

use Rattle.std.proofs.Common.{refl}
use Rattle.er_binary.specs.Decoded.{to_come, to_touch}
use Rattle.er_binary.proofs.decoded.Decoded.new.Goals as goal

pub returns-clause-fresh : goal.returns-clause-fresh
unfolding to_come
returns-clause-fresh g c = λ bytes. refl

pub returns-clause-touches : goal.returns-clause-touches
unfolding to_touch
returns-clause-touches g c = λ bytes. refl

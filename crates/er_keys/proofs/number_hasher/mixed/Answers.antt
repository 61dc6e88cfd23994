use Rattle.std.proofs.Common.{refl}
use Rattle.er_keys.specs.Mixing.{mixed}
use Rattle.er_keys.proofs.number_hasher.mixed.Goals as goal

pub returns : goal.returns
unfolding mixed
returns c = refl

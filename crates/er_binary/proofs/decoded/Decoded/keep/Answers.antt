-- What it keeps changes nothing of what it gives and notes.
use Rattle.std.proofs.Common.{refl}
use Rattle.er_binary.specs.Decoded.{to_come, to_touch}
use Rattle.er_binary.proofs.decoded.Decoded.keep.Goals as goal

pub returns-clause-text : goal.returns-clause-text
unfolding to_come
returns-clause-text g c = λ bytes. refl

pub returns-clause-touches : goal.returns-clause-touches
unfolding to_touch
returns-clause-touches g c = λ bytes. refl

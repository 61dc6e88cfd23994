-- Neither what is given nor what is to be noted goes by whether it notes, and it notes from then on unless a binary trace has begun.
use Rattle.std.proofs.Common.{refl}
use Rattle.er_binary.specs.Decoded.{to_come, to_touch}
use Rattle.er_binary.proofs.DecodedLaws.{asked_noting}
use Rattle.er_binary.proofs.decoded.Decoded.note_touches.Goals as goal

pub returns-clause-text : goal.returns-clause-text
unfolding to_come
returns-clause-text g c = λ bytes. refl

pub returns-clause-touches : goal.returns-clause-touches
unfolding to_touch
returns-clause-touches g c = λ bytes. refl

pub returns-clause-noting : goal.returns-clause-noting
returns-clause-noting g c = asked_noting c.args.self.now.form c.args.self.now.is_noting

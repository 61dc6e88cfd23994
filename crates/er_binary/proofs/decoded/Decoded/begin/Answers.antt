use Rattle.std.proofs.Common.{refl}
use Rattle.er_binary.proofs.NotesLaws.{stays_same}
use Rattle.er_binary.specs.Decoded.{to_touch}
use Rattle.er_binary.proofs.decoded.Decoded.begin.Goals as goal

pub returns-in_default-clause-touches : goal.returns-in_default-clause-touches
returns-in_default-clause-touches g c = λ on. stays_same (to_touch c.args.self.now) (to_touch c.args.self.now) _ (λ rest. refl)

use Rattle.er_text.proofs.BatchLaws.{forgotten}
use Rattle.er_text.proofs.laws.a_batch_may_be_forgotten.Goals as goal

pub returns : goal.returns
returns c = forgotten

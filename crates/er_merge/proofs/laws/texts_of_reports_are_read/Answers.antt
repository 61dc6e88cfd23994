use Rattle.er_merge.proofs.FaultLemmas.{no_fault}
use Rattle.er_merge.proofs.laws.texts_of_reports_are_read.Goals as goal

pub returns : goal.returns
returns c = no_fault

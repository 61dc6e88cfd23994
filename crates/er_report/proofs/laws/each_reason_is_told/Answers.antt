use Rattle.er_report.proofs.LawLemmas.{labels-at}
use Rattle.er_report.proofs.laws.each_reason_is_told.Goals as goal

pub returns : goal.returns
returns c = labels-at

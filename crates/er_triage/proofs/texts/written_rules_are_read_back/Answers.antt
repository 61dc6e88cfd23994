use Rattle.er_triage.proofs.ReadBackLemmas.{read_back}
use Rattle.er_triage.proofs.texts.written_rules_are_read_back.Goals as goal

pub returns : goal.returns
returns c = read_back

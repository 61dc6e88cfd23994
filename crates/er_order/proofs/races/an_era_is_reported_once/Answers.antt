use Rattle.er_order.proofs.RaceFacts.{had-reported, reported-once}
use Rattle.er_order.proofs.races.an_era_is_reported_once.Goals as goal

pub returns-clause-reported : goal.returns-clause-reported
returns-clause-reported c = had-reported

pub returns-clause-once : goal.returns-clause-once
returns-clause-once c = reported-once

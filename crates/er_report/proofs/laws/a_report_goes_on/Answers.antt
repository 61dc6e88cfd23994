use Rattle.er_report.proofs.GrowthLemmas.{goes-on, goes-on-by, reported-on}
use Rattle.er_report.proofs.laws.a_report_goes_on.Goals as goal

pub returns-clause-built_by : goal.returns-clause-built_by
returns-clause-built_by c = goes-on-by

pub returns-clause-built : goal.returns-clause-built
returns-clause-built c = goes-on

pub returns-clause-reported : goal.returns-clause-reported
returns-clause-reported c = reported-on

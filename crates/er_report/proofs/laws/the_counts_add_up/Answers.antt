use Rattle.std.proofs.Common.{length}
use Rattle.er_model.specs.Answers.{answer}
use Rattle.er_report.specs.Report.{answered_steps, reasons_if}
use Rattle.er_report.proofs.LawLemmas.{counts-sum, races-sum}
use Rattle.er_report.proofs.laws.the_counts_add_up.Goals as goal

pub returns-clause-suppressed_by : goal.returns-clause-suppressed_by
returns-clause-suppressed_by c a reasons r rules stop = counts-sum a r rules (length (answered_steps r.steps stop))

pub returns-clause-races_by : goal.returns-clause-races_by
returns-clause-races_by c a reasons r rules stop = races-sum a r rules (length (answered_steps r.steps stop))

-- by the lockset rule
pub returns-clause-suppressed : goal.returns-clause-suppressed
returns-clause-suppressed c r rules explain stop = returns-clause-suppressed_by c (answer r.steps) (reasons_if explain r) r rules stop

pub returns-clause-races : goal.returns-clause-races
returns-clause-races c r rules explain stop = returns-clause-races_by c (answer r.steps) (reasons_if explain r) r rules stop

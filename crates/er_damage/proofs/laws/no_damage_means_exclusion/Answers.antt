use Rattle.er_damage.proofs.Exclusion.{excluded, text-excludes}
use Rattle.er_damage.proofs.laws.no_damage_means_exclusion.Goals as goal

pub returns-clause-steps : goal.returns-clause-steps
returns-clause-steps c = excluded

pub returns-clause-text : goal.returns-clause-text
returns-clause-text c = text-excludes

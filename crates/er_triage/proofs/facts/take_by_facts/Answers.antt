-- Each number that had a name has it still.
use Rattle.er_rules.specs.Rules.{targets_of}
use Rattle.er_triage.proofs.FactLemmas.{named_left}
use Rattle.er_triage.proofs.facts.take_by_facts.Goals as goal

pub returns-clause-named : goal.returns-clause-named
returns-clause-named c = λ names named. record {
  lockset = named_left c.args.places.now (targets_of c.args.suppressions.now) names _ _ c.in_ok-left_of.ensures named.lockset;
  unordered = named_left c.args.places.now (targets_of c.args.suppressions.now) names _ _ c.in_ok-left_of-2.ensures named.unordered;
}

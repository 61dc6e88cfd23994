use Rattle.er_rules.proofs.RuleTexts.{either_one, not_both, same_rules, same_fault}
use Rattle.er_rules.proofs.laws.rules_or_fault.Goals as goal

pub returns : goal.returns
returns c = record { either = either_one; never_both = not_both; one_list = same_rules; one_fault = same_fault }

use Rattle.er_rules.proofs.IndexLemmas.{taking-none}
use Rattle.er_rules.proofs.index.RuleIndex.new.Goals as goal

pub returns-clause-patterns : goal.returns-clause-patterns
returns-clause-patterns c = λ site. taking-none c.new-2.result.items site c.new-2.ensures.items

use Rattle.er_rules.proofs.IndexLemmas.{first_of-none}
use Rattle.er_rules.proofs.index.WordIndex.new.Goals as goal

pub returns : goal.returns
returns c = λ lo hi. first_of-none _ lo hi c.new.ensures.items

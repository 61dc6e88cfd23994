use Rattle.er_unordered.specs.Tags.{line_reason, one_told, no_tag, none_told}
use Rattle.er_unordered.proofs.StoppingLemmas.{started}
use Rattle.er_unordered.proofs.ordering.Machines.new.Goals as goal

pub returns-then-explain-clause-start : goal.returns-then-explain-clause-start
returns-then-explain-clause-start c = λ touched builder built. started line_reason one_told c.keyed.result c.keyed.ensures touched builder built

pub returns-else-explain-clause-start : goal.returns-else-explain-clause-start
returns-else-explain-clause-start c = λ touched builder built. started no_tag none_told c.keyed-else-explain.result c.keyed-else-explain.ensures touched builder built

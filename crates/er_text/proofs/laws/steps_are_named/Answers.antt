-- By the order in which names appear.
use Rattle.er_text.proofs.NamedLaws.{trace_named}
use Rattle.er_text.proofs.laws.steps_are_named.Goals as goal

pub returns : goal.returns
returns c = trace_named

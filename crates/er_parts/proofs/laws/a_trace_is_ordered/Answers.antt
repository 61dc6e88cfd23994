use Rattle.er_parts.proofs.TextOrder.{trace-ordered}
use Rattle.er_parts.proofs.laws.a_trace_is_ordered.Goals as goal

pub returns : goal.returns
returns c = trace-ordered

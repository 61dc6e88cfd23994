use Rattle.er_merge.proofs.StepCounts.{few_steps}
use Rattle.er_merge.proofs.laws.a_trace_has_few_steps.Goals as goal

pub returns : goal.returns
returns c = few_steps

use Rattle.std.proofs.Common.{◌+◌, ◌++◌, List, length, true}
use Rattle.er_event.specs.declared.steps.Step.{Step}
use Rattle.er_batch.specs.Inner.Items.{Holds}
use Rattle.er_batch.proofs.crew.pass_all.Given as goal

-- what threads hold after the steps so far is known
abbrev pub invariant-loop-k : goal.invariant-loop-k
invariant-loop-k l = (past : List Step) → Holds true l.fn.holder (past ++ l.steps) (length past + l.from) → Holds true l.holder (past ++ l.steps) (length past + l.k)

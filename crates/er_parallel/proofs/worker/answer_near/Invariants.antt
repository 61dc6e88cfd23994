-- So far the worker has come in the batch.
use Rattle.std.proofs.Common.{List, ◌+◌}
use Rattle.er_event.specs.declared.steps.Step.{Step}
use Rattle.er_parallel.specs.Inner.Taking.{HasCome}
use Rattle.er_parallel.proofs.worker.answer_near.Given as goal

abbrev pub invariant-loop-k : goal.invariant-loop-k
invariant-loop-k l = (past : List Step) → HasCome l.from past l.steps l.share l.initial.found.items l.initial.machine → HasCome (l.from + l.k) past l.steps l.share l.found.items l.machine

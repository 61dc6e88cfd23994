-- So far a worker has come in the batch. What lies between the steps that it looks at is answered by others.
use Rattle.std.proofs.Common.{List, ◌-◌, ◌≤◌, length}
use Rattle.er_event.specs.declared.steps.Step.{Step}
use Rattle.er_parallel.specs.Crews.{HasFollowed}
use Rattle.er_parallel.specs.Inner.Taking.{HasCome}
use Rattle.er_parallel.proofs.worker.answer_all.Given as goal

abbrev pub invariant-loop-at : goal.invariant-loop-at
invariant-loop-at l = record {
  within : l.at ≤ length l.steps;
  come : (past : List Step) → HasFollowed l.share.shards l.share.workers l.share.worker past l.initial.machine → HasCome l.at past l.steps l.share l.found.items l.machine;
}

abbrev pub decreases-loop-at : goal.decreases-loop-at
decreases-loop-at l = length l.steps - l.at

-- So far the worker has come in the batch.
use Rattle.std.proofs.Common.{List, ◌-◌, ◌≤◌, length}
use Rattle.er_event.specs.declared.steps.Step.{Step}
use Rattle.er_parallel.specs.Crews.{HasFollowed}
use Rattle.er_parallel.specs.Inner.Taking.{HasCome}
use Rattle.er_parallel.proofs.worker.answer_alone.Given as goal

abbrev pub invariant-loop-from : goal.invariant-loop-from
invariant-loop-from l = record {
  within : l.from ≤ length l.steps;
  come : (past : List Step) → HasFollowed l.share.shards l.share.workers l.share.worker past l.initial.machine → HasCome l.from past l.steps l.share l.found.items l.machine;
}

abbrev pub decreases-loop-from : goal.decreases-loop-from
decreases-loop-from l = length l.steps - l.from

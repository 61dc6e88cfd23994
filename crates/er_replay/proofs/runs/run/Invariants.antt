use Rattle.std.proofs.Common.{◌≡◌, ◌++◌, List, length, take}
use Rattle.er_event.specs.declared.steps.Step.{Step}
use Rattle.er_model.specs.Runs.{answers_after}
use Rattle.er_replay.specs.Standing.{Stands}
use Rattle.er_replay.proofs.runs.run.Given as goal

-- the first answers are there, and the machine stands for the first steps
abbrev pub invariant-loop-at : goal.invariant-loop-at
invariant-loop-at g l = record {
  size : length l.answers ≡ length l.steps;
  answers : (past : List Step) → Stands l.initial.machine past → take l.at l.answers ≡ answers_after past (take l.at l.steps);
  stands : (past : List Step) → Stands l.initial.machine past → Stands l.machine (past ++ take l.at l.steps);
}

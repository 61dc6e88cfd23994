-- How far a replay came.
use Rattle.std.specs.Prelude.{List, Option, Some, None, take}
use Rattle.er_event.specs.declared.steps.Step.{Step}
use Rattle.er_journal.specs.declared.answers.Stopped.{Stopped}

-- the steps that were answered: those before the stop, or all of them
abbrev pub answered_steps : List Step → Option Stopped → List Step
answered_steps steps None = steps
answered_steps steps (Some stop) = take stop.at steps

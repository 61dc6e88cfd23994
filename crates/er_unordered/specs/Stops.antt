-- Why happens-before stops at a step.
use Rattle.std.specs.Prelude.{List}
use Rattle.er_clock.specs.declared.clock.NoTick.{NoTick}
use Rattle.er_clock.specs.declared.clock.NoTick.TheVariants.{Beyond, OutOfMemory}
use Rattle.er_clock.specs.Crowding.{BeyondIn}
use Rattle.er_event.specs.declared.steps.Step.{Step}

-- why these steps weren't all answered: one of them may be beyond a limit of the clocks, or memory was refused
abbrev pub IsStopIn : List Step → NoTick → Type 0
IsStopIn steps (Beyond limit) = BeyondIn limit steps
IsStopIn steps OutOfMemory = Unit {0}

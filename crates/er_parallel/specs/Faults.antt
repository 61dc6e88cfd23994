-- Why a replay has no answers, and when it may find the table of sets full.
use Rattle.std.specs.Prelude.{◌≡◌, ℕ, IsTrue, List, slice_get, Some}
use Rattle.er_event.specs.declared.refusals.NoRoom.{NoRoom}
use Rattle.er_event.specs.declared.refusals.NoRoom.TheVariants as room
use Rattle.er_event.specs.declared.steps.Step.{Step}
use Rattle.er_model.specs.Answers.{state_at}
use Rattle.er_model.specs.Holdings.{holdings_at}
use Rattle.er_parallel.specs.declared.config.ReplayFault.{ReplayFault}
use Rattle.er_parallel.specs.declared.config.ReplayFault.TheVariants as fault
use Rattle.er_replay.specs.Wants.{asks_by}

-- the step at some position of the list asks the table for a set
pub record AsksForSet (steps : List Step) : Type 0 where
  pub at : ℕ
  pub step : Step
  pub there : slice_get steps at ≡ Some step
  pub asks : IsTrue (asks_by (holdings_at steps step.thread at) (λ w. state_at steps w at) step.thread step.event)

-- the fault of a replay that found no room for a step
abbrev pub fault_of : NoRoom → ReplayFault
fault_of room.TableFull = fault.TableFull
fault_of room.JournalFull = fault.Memory
fault_of room.OutOfMemory = fault.Memory

-- a fault says that the table is full only if a step asks it for a set, and never that a worker is lost
abbrev pub MayFail : List Step → ReplayFault → Type 0
MayFail steps fault.Memory = Unit {0}
MayFail steps fault.TableFull = AsksForSet steps
MayFail steps fault.WorkerNotStarted = Unit {0}
MayFail steps fault.WorkerLost = ⊥

-- Where a run stops, and why it may.
use Rattle.std.specs.Prelude.{◌≡◌, ◌⊎◌, ◌++◌, IsTrue, List, IsSomeAnd, IsOk, slice_get, take}
use Rattle.er_event.specs.Refusal.{refusal_of}
use Rattle.er_event.specs.declared.refusals.NoRoom.{NoRoom}
use Rattle.er_event.specs.declared.refusals.NoRoom.TheVariants.{OutOfMemory}
use Rattle.er_event.specs.declared.steps.Step.{Step}
use Rattle.er_journal.specs.declared.answers.Stopped.{Stopped}
use Rattle.er_model.specs.Answers.{answer_next, state_end}
use Rattle.er_model.specs.Holdings.{holdings_end}
use Rattle.er_replay.specs.Wants.{may_want}

-- a step after this list, which the definitions don't refuse, may want what had no room
abbrev pub MayLack : List Step → Step → NoRoom → Type 0
MayLack past step cause =
    IsOk (answer_next past step) × IsTrue (may_want (holdings_end past step.thread) (state_end past) step.thread step.event (refusal_of cause))

-- after this past, the whole list of answers found no memory, or the step at the stop may want what had no room
abbrev pub MayStop : List Step → List Step → Stopped → Type 0
MayStop past steps stopped =
    ((stopped.at ≡ 0) × (stopped.cause ≡ OutOfMemory)) ⊎ IsSomeAnd (slice_get steps stopped.at) (λ step. MayLack (past ++ take stopped.at steps) step stopped.cause)

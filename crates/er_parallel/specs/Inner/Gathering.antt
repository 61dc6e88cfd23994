-- Answers of which some aren't in their places yet.
use Rattle.std.specs.Prelude.{◌≡◌, ◌⊎◌, ◌<◌, [], ℕ, List, length, slice_get, Some, Result}
use Rattle.er_event.specs.declared.refusals.Refusal.{Refusal}
use Rattle.er_event.specs.declared.steps.Reply.{Reply}
use Rattle.er_event.specs.declared.steps.Step.{Step}
use Rattle.er_model.specs.Answers.{answer}
use Rattle.er_parallel.specs.Crews.{IsAmong, IsAnswered}
use Rattle.er_parallel.specs.declared.worker.Unusual.{Unusual}

-- the place has the answer that the list of steps gives
abbrev pub IsRight : List Step → List (Result Reply Refusal) → ℕ → Type 0
IsRight steps given k = slice_get given k ≡ Some (answer steps k)

-- each place has its answer, but for those of these items, which have the answers to their steps
pub record AreRightBut (steps : List Step) (given : List (Result Reply Refusal)) (items : List Unusual) : Type 0 where
  pub size : length given ≡ length steps
  pub right : (k : ℕ) → k < length steps → IsRight steps given k ⊎ IsAmong items k
  pub each : (j : ℕ) (item : Unusual) → slice_get items j ≡ Some item → IsAnswered [] steps item

-- How far a worker has come in a batch.
use Rattle.std.specs.Prelude.{IsTrue, Bool, false, ◌≡◌, ◌⊎◌, ◌<◌, ◌≤◌, ◌+◌, ◌%◌, ◌++◌, ◌∷◌, [], ℕ, List, length, slice_get, Some, Result, Ok, MatchOption}
use Rattle.er_event.specs.declared.steps.Event.{Event}
use Rattle.er_event.specs.declared.steps.Step.{Step}
use Rattle.er_event.specs.declared.refusals.Refusal.{Refusal}
use Rattle.er_event.specs.declared.steps.Reply.{Reply}
use Rattle.er_event.specs.declared.steps.Reply.TheVariants.{Race}
use Rattle.er_journal.specs.Merges.{shard_of}
use Rattle.er_model.specs.Answers.{answer, state_at}
use Rattle.er_model.specs.Holdings.{holdings_at}
use Rattle.er_parallel.specs.Crews.{IsAmong, IsAnswered, HasFollowed, LeavesWord, Rise}
use Rattle.er_parallel.specs.Usual.{usual}
use Rattle.er_parallel.specs.Tasks.{worker_for}
use Rattle.er_parallel.specs.Inner.Faults.{MayBeFull}
use Rattle.er_parallel.specs.declared.worker.Share.{Share}
use Rattle.er_parallel.specs.declared.worker.Unusual.{Unusual}
use Rattle.er_parallel.specs.declared.worker.Worker.{Worker}
use Rattle.er_replay.specs.Standing.{Replayed, holding, states}
use Rattle.er_replay.specs.declared.machine.Brief.{Brief}
use Rattle.er_replay.specs.declared.machine.Brief.TheVariants as brief
use Rattle.er_replay.specs.Wants.{is_access}

-- the worker that has the share answers the event
abbrev pub IsOwn : Share → Event → Type 0
IsOwn share event = worker_for share.shards share.workers event ≡ share.worker

-- the event is an access that another worker answers
abbrev pub IsIdle : Share → Event → Type 0
IsIdle share event = IsTrue (is_access event) × (IsOwn share event → ⊥)

-- it is anything else, so the worker has to look at it
abbrev pub IsBusy : Share → Event → Type 0
IsBusy share event = IsIdle share event → ⊥

-- the batch's steps from one position up to another are accesses that other workers answer
abbrev pub AreIdle : Share → ℕ → ℕ → List Step → Type 0
AreIdle share from to batch = (k : ℕ) (step : Step) → from ≤ k → k < to → slice_get batch k ≡ Some step → IsIdle share step.event

-- of some steps after this past, the positions of the items rise, and each has the answer to a step that passes the test
pub record AreFound (own : Event → Type 0) (past batch : List Step) (items : List Unusual) : Type 0 where
  pub rise : Rise items
  pub right : (j : ℕ) (item : Unusual) → slice_get items j ≡ Some item → IsAnswered past batch item
  pub owned : (j : ℕ) (item : Unusual) (step : Step) → slice_get items j ≡ Some item → slice_get batch item.at ≡ Some step → own step.event

-- after the first n steps of the batch a worker's items are below n, and each step of its own without an item is answered as usual; if it notes
-- changes, such a step changes no word that it accesses
pub record IsFoundSoFar (n : ℕ) (past : List Step) (batch : List Step) (share : Share) (items : List Unusual) : Type 0 where
  pub found : AreFound (IsOwn share) past batch items
  pub below : (j : ℕ) (item : Unusual) → slice_get items j ≡ Some item → item.at < n
  pub whole : (k : ℕ) (step : Step) → k < n → slice_get batch k ≡ Some step → IsOwn share step.event →
      (answer (past ++ batch) (length past + k) ≡ usual step.event) ⊎ IsAmong items k
  pub noted : (k : ℕ) (step : Step) → k < n → slice_get batch k ≡ Some step → IsOwn share step.event → IsTrue share.noting →
      LeavesWord (past ++ batch) (length past + k) step.event ⊎ IsAmong items k

-- the brief answer is the usual one, and if changes are noted it isn't that of an access that may have changed a word
abbrev pub IsPassed : Result Brief Refusal → Bool → Bool → Type 0
IsPassed answer noting changed = (answer ≡ Ok brief.Done) ⊎ (((answer ≡ Ok brief.Quiet) ⊎ (answer ≡ Ok brief.First)) × (IsTrue noting → changed ≡ false))

-- the answer is kept behind the other items, with these locks if it is a race
pub record IsKept (at : ℕ) (given : Result Reply Refusal) (held : List ℕ) (old new : List Unusual) : Type 0 where
  pub locks : List ℕ
  pub locked : given ≡ Ok Race → locks ≡ held
  pub items : new ≡ old ++ record { at = at; answer = given; held = locks } ∷ []

-- after the first n steps its machine has every thread's holdings and the states of its own shards' words, and it has its items
pub record HasCome (n : ℕ) (past : List Step) (batch : List Step) (share : Share) (items : List Unusual) (machine : Replayed) : Type 0 where
  pub held : (t : ℕ) → holding machine t ≡ holdings_at (past ++ batch) t (length past + n)
  pub words : (w : ℕ) → shard_of share.shards w % share.workers ≡ share.worker → states machine w ≡ state_at (past ++ batch) w (length past + n)
  pub found : IsFoundSoFar n past batch share items

-- it has followed the batch and found its items
pub record HasDone (past : List Step) (batch : List Step) (share : Share) (items : List Unusual) (machine : Replayed) : Type 0 where
  pub followed : HasFollowed share.shards share.workers share.worker (past ++ batch) machine
  pub found : IsFoundSoFar (length batch) past batch share items

-- or it has a fault, which says that the table is full only if some step asks it for a set
abbrev pub HasTaken : List Step → List Step → Share → Worker → Type 0
HasTaken past batch share worker = MatchOption worker.fault (HasDone past batch share worker.found.items worker.machine) (λ fault. MayBeFull (past ++ batch) fault)

-- What workers have answered so far, and which answers of a batch aren't the usual ones.
use Rattle.std.specs.Prelude.{◌≡◌, ◌⊎◌, ◌<◌, ◌+◌, ◌%◌, ◌++◌, ℕ, List, length, slice_get, Some, Ok}
use Rattle.er_event.specs.declared.steps.Event.{Event}
use Rattle.er_event.specs.declared.steps.Event.TheVariants.{Acquire, Release, Access, Reuse, IgnoreOn, IgnoreOff, Show, Level, Sync}
use Rattle.er_event.specs.declared.steps.Reply.TheVariants.{Race}
use Rattle.er_event.specs.declared.steps.Step.{Step}
use Rattle.er_journal.specs.Merges.{shard_of}
use Rattle.er_model.specs.Answers.{answer, state_at, state_end}
use Rattle.er_model.specs.Holdings.{holdings_end}
use Rattle.er_model.specs.Threads.{accepted, held}
use Rattle.er_parallel.specs.Usual.{usual}
use Rattle.er_parallel.specs.declared.worker.Unusual.{Unusual}
use Rattle.er_replay.specs.Standing.{Replayed, holding, states}

-- in how many shards the words are, and the machine of each worker
pub record Crewed : Type 0 where
  pub shards : ℕ
  pub machines : List Replayed

-- of so many workers, this one's machine has every thread's holdings after the steps, and the states of its own shards' words
pub record HasFollowed (shards workers worker : ℕ) (past : List Step) (machine : Replayed) : Type 0 where
  pub holdings : (t : ℕ) → holding machine t ≡ holdings_end past t
  pub words : (w : ℕ) → shard_of shards w % workers ≡ worker → states machine w ≡ state_end past w

-- each worker has answered its own of these steps and followed the others
abbrev pub HaveAnswered : Crewed → List Step → Type 0
HaveAnswered crew past = (worker : ℕ) (machine : Replayed) → slice_get crew.machines worker ≡ Some machine → HasFollowed crew.shards (length crew.machines) worker past machine

-- the item has the answer to the step at its position in the batch, and if it is a race the locks that the step's thread holds there
pub record IsAnswered (past batch : List Step) (item : Unusual) : Type 0 where
  pub step : Step
  pub there : slice_get batch item.at ≡ Some step
  pub answered : item.answer ≡ answer (past ++ batch) (length past + item.at)
  pub locked : item.answer ≡ Ok Race → item.held ≡ held (accepted (past ++ batch) (length past + item.at)) step.thread

-- the positions of the items rise
abbrev pub Rise : List Unusual → Type 0
Rise items = (i j : ℕ) (one other : Unusual) → i < j → slice_get items i ≡ Some one → slice_get items j ≡ Some other → one.at < other.at

-- some item is at position k
pub record IsAmong (items : List Unusual) (k : ℕ) : Type 0 where
  pub index : ℕ
  pub item : Unusual
  pub there : slice_get items index ≡ Some item
  pub at : item.at ≡ k

-- an access at position k leaves its word's state as it is
abbrev pub LeavesWord : List Step → ℕ → Event → Type 0
LeavesWord steps k (Access kind w site) = state_at steps w (k + 1) ≡ state_at steps w k
LeavesWord steps k (Acquire l m) = Unit {0}
LeavesWord steps k (Release l m) = Unit {0}
LeavesWord steps k (Reuse range) = Unit {0}
LeavesWord steps k IgnoreOn = Unit {0}
LeavesWord steps k IgnoreOff = Unit {0}
LeavesWord steps k (Show w) = Unit {0}
LeavesWord steps k (Level n) = Unit {0}
LeavesWord steps k (Sync sync) = Unit {0}

-- after this past, each access of the batch that changes its word's state has an item
abbrev pub AreNoted : List Step → List Step → List Unusual → Type 0
AreNoted past batch items = (k : ℕ) (step : Step) → slice_get batch k ≡ Some step → LeavesWord (past ++ batch) (length past + k) step.event ⊎ IsAmong items k

-- after this past, the items' positions in the batch rise, each has its answer, and each step without an item is answered as usual
pub record AreUnusual (past batch : List Step) (items : List Unusual) : Type 0 where
  pub rise : Rise items
  pub right : (j : ℕ) (item : Unusual) → slice_get items j ≡ Some item → IsAnswered past batch item
  pub others : (k : ℕ) (step : Step) → slice_get batch k ≡ Some step → (answer (past ++ batch) (length past + k) ≡ usual step.event) ⊎ IsAmong items k

-- The unusual answers of a batch, which go into a report with the usual ones.
use Rattle.std.specs.Prelude.{◌≡◌, ◌<◌, ◌≤◌, ◌⊎◌, ◌++◌, ◌∷◌, [], ℕ, Bool, true, false, List, slice_get, Some, IsTrue}
use Rattle.er_batch.specs.Runs.{all_of}
use Rattle.er_event.specs.declared.steps.Event.{Event}
use Rattle.er_event.specs.declared.steps.Event.TheVariants.{Reuse}
use Rattle.er_event.specs.declared.steps.Step.{Step}
use Rattle.er_model.specs.Holdings.{holdings_at}
use Rattle.er_parallel.specs.Crews.{AreNoted, AreUnusual, Crewed, HaveAnswered}
use Rattle.er_parallel.specs.declared.worker.Unusual.{Unusual}
use Rattle.er_replay.specs.Standing.{Replayed, holding}

-- the items below index `next` are those of the positions below k
pub record IsNext (items : List Unusual) (next k : ℕ) : Type 0 where
  pub below : (j : ℕ) (item : Unusual) → slice_get items j ≡ Some item → j < next → item.at < k
  pub above : (j : ℕ) (item : Unusual) → slice_get items j ≡ Some item → next ≤ j → k ≤ item.at

-- these are the unusual answers of a batch, and the accesses that changed their words if these are noted
pub record AreItems (noting : Bool) (past batch : List Step) (items : List Unusual) : Type 0 where
  pub unusual : AreUnusual past batch items
  pub noted : IsTrue noting → AreNoted past batch items

-- the same of each of these lists, which stand one behind the other
abbrev pub AreListItems : Bool → List Step → List (List Step) → List (List Unusual) → Type 0
AreListItems noting past [] all = Unit {0}
AreListItems noting past (batch ∷ more) [] = ⊥
AreListItems noting past (batch ∷ more) (items ∷ all) = AreItems noting past batch items × AreListItems noting (past ++ batch) more all

-- the workers have answered these lists of steps behind others, and put what is unusual of each behind what was there
pub record HaveTaken (noting : Bool) (past : List Step) (lists : List (List Step)) (crew : Crewed) (old new : List (List Unusual)) : Type 0 where
  pub goes_on : HaveAnswered crew (past ++ all_of lists)
  pub found : List (List Unusual)
  pub new_is : new ≡ old ++ found
  pub are : AreListItems noting past lists found

-- if reasons are wanted, the machine has what each thread holds after the first n steps
abbrev pub Holds : Bool → Replayed → List Step → ℕ → Type 0
Holds wanted machine steps n = IsTrue wanted → (t : ℕ) → holding machine t ≡ holdings_at steps t n

-- the event reuses words
abbrev pub is_reuse : Event → Bool
is_reuse (Reuse range) = true
is_reuse _ = false

-- the next item is that of position k, or reasons are wanted and the step there reuses words
abbrev pub IsTold : Bool → List Step → List Unusual → ℕ → ℕ → Type 0
IsTold wanted batch items next k =
    ((item : Unusual) × (slice_get items next ≡ Some item) × (item.at ≡ k))
    ⊎ ((wanted ≡ true) × ((step : Step) × (slice_get batch k ≡ Some step) × (is_reuse step.event ≡ true)))

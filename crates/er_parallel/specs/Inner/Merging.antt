-- How the unusual answers of all workers come into one list.
use Rattle.std.specs.Prelude.{◌≡◌, ◌⊎◌, ◌<◌, ◌≤◌, ◌+◌, ℕ, List, [], ◌∷◌, length, slice_get, set, map, Option, Some, IfSome}
use Rattle.er_parallel.specs.Crews.{Rise}
use Rattle.er_parallel.specs.declared.worker.Unusual.{Unusual}
use Rattle.er_parallel.specs.declared.worker.Worker.{Worker}
use Rattle.er_replay.specs.Standing.{Replayed}

-- the machines of the workers
abbrev pub machines_of : List Worker → List Replayed
machines_of workers = map (λ w. w.machine) workers

-- how many answers the workers have found
abbrev pub count_found : List Worker → ℕ
count_found [] = 0
count_found (worker ∷ rest) = length worker.found.items + count_found rest

-- the item stands in the list
pub record IsIn (items : List Unusual) (item : Unusual) : Type 0 where
  pub place : ℕ
  pub there : slice_get items place ≡ Some item

-- worker i has found the item
pub record HasItem (workers : List Worker) (i : ℕ) (item : Unusual) : Type 0 where
  pub worker : Worker
  pub there : slice_get workers i ≡ Some worker
  pub has : IsIn worker.found.items item

-- the first item that worker i has found is at this position
pub record HasHead (workers : List Worker) (i at : ℕ) : Type 0 where
  pub worker : Worker
  pub there : slice_get workers i ≡ Some worker
  pub item : Unusual
  pub rest : List Unusual
  pub is : worker.found.items ≡ item ∷ rest
  pub is_at : item.at ≡ at

-- among the first n workers, none has found an item
abbrev pub NoHeadBelow : ℕ → List Worker → Type 0
NoHeadBelow n workers = (i at : ℕ) → i < n → HasHead workers i at → ⊥

-- worker i has a first item at this position, and none of the first n workers has one before it
pub record IsLeastHead (n : ℕ) (workers : List Worker) (i at : ℕ) : Type 0 where
  pub head : HasHead workers i at
  pub least : (j other : ℕ) → j < n → HasHead workers j other → at ≤ other

-- the known head, unless the other's position is before it
abbrev pub IsLesserHead : Option (ℕ × ℕ) → ℕ × ℕ → ℕ × ℕ → Type 0
IsLesserHead known other given = ((given ≡ other) × IfSome known (λ k. other.1 ≤ k.1)) ⊎ ((known ≡ Some given) × (given.1 ≤ other.1))

-- the item was the first of a worker's, and no other worker's first was before it; the rest is as it was
pub record IsTaken (before : List Worker) (item : Unusual) (after : List Worker) : Type 0 where
  pub index : ℕ
  pub was : Worker
  pub now : Worker
  pub there : slice_get before index ≡ Some was
  pub after_is : after ≡ set before index now
  pub found : was.found.items ≡ item ∷ now.found.items
  pub machine : now.machine ≡ was.machine
  pub least : (j other : ℕ) → HasHead before j other → item.at ≤ other

-- the items of each worker rise, and no two workers have items at one position
pub record AreApart (workers : List Worker) : Type 0 where
  pub rise : (i : ℕ) (worker : Worker) → slice_get workers i ≡ Some worker → Rise worker.found.items
  pub apart : (i j : ℕ) (one other : Unusual) → HasItem workers i one → HasItem workers j other → one.at ≡ other.at → i ≡ j

-- the items so far and those that the workers still have are those that they had; the items rise, up to those that the workers have
pub record AreMerged (before now : List Worker) (items : List Unusual) : Type 0 where
  pub rise : Rise items
  pub low : (i : ℕ) (one other : Unusual) → IsIn items one → HasItem now i other → one.at < other.at
  pub still : AreApart now
  pub had : (item : Unusual) → IsIn items item → (i : ℕ) × HasItem before i item
  pub have : (i : ℕ) (item : Unusual) → HasItem now i item → HasItem before i item
  pub all : (i : ℕ) (item : Unusual) → HasItem before i item → IsIn items item ⊎ HasItem now i item

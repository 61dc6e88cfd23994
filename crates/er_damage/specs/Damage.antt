-- What the steps of a recording show to be damaged, looked back on from a point. Point n is the moment after the first n positions.
use Rattle.std.specs.Prelude.{ℕ, ◌≡◌, ◌<◌, true, List, slice_get, slice_index, Option, Some, None, Ok, IsErr}
use Rattle.er_event.specs.declared.steps.Event.TheVariants.{Acquire}
use Rattle.er_event.specs.declared.steps.Mode.{Mode}
use Rattle.er_event.specs.declared.steps.Mode.TheVariants.{Read, Write}
use Rattle.er_event.specs.declared.steps.Reply.TheVariants.{Done}
use Rattle.er_event.specs.declared.steps.Step.{Step}
use Rattle.er_event.specs.Lockset.{has}
use Rattle.er_model.specs.Answers.{answer}
use Rattle.er_model.specs.Holdings.{Holdings, holdings_at}

-- the step at position k is refused
abbrev pub IsRefusedAt : List Step → ℕ → Type 0
IsRefusedAt steps k = IsErr (answer steps k)

-- the locks that nobody else may take in this mode, by what a thread holds: to read, those that it holds to write; to write, all
abbrev pub kept_from : Mode → Holdings → List ℕ
kept_from Read h = h.write_held
kept_from Write h = h.held

-- the step at position k takes a lock that another thread holds at that moment, and not both hold it to read only
pub record IsHeldTwiceAt (steps : List Step) (k : ℕ) : Type 0 where
  pub thread : ℕ
  pub lock : ℕ
  pub mode : Mode
  pub other : ℕ
  pub takes : slice_get steps k ≡ Some (record { thread = thread; event = Acquire lock mode })
  pub done : answer steps k ≡ Ok Done
  pub apart : other ≡ thread → ⊥
  pub holds : has (kept_from mode (holdings_at steps other k)) lock ≡ true

-- the line of the first of n positions that this is true of, if there is one
abbrev pub IsFirstLine : (ℕ → Type 0) → List ℕ → ℕ → Option ℕ → Type 0
IsFirstLine P lines n None = (k : ℕ) → k < n → P k → ⊥
IsFirstLine P lines n (Some line) = (k : ℕ) × (k < n) × P k × ((j : ℕ) → j < k → P j → ⊥) × (line ≡ slice_index lines k)

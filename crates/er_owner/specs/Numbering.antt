-- Numbers of sets, and the states of words that they stand for.
use Rattle.std.specs.Prelude.{◌≡◌, ◌==◌, ℕ, ◌<◌, List, [], length, slice_index_or}
use Rattle.er_event.specs.Lockset.{meet}
use Rattle.er_event.specs.declared.steps.WordState.{WordState}
use Rattle.er_event.specs.declared.steps.WordState.TheVariants as known
use Rattle.er_model.specs.Words.{is_empty}
use Rattle.er_owner.specs.declared.states.NumberedState.{NumberedState}
use Rattle.er_owner.specs.declared.states.NumberedState.TheVariants.{Virgin, Exclusive, Shared, SharedModified}
use Rattle.er_owner.specs.declared.states.Need.{Need}
use Rattle.er_owner.specs.declared.states.Need.TheVariants.{Nothing, Fresh, Meet}

-- the set of a number, and no locks past the end
abbrev pub set_of : List (List ℕ) → ℕ → List ℕ
set_of sets n = slice_index_or sets n []

-- the number is this set's, and 0 if the set has no locks and only then
pub record IsNumberOf (sets : List (List ℕ)) (n : ℕ) (set : List ℕ) : Type 0 where
  pub within : n < length sets
  pub names : set_of sets n ≡ set
  pub zero : is_empty set ≡ (n == 0)

-- the state, with the set for its number
abbrev pub state_in : List (List ℕ) → NumberedState → WordState
state_in sets Virgin = known.Virgin
state_in sets (Exclusive t) = known.Exclusive t
state_in sets (Shared n) = known.Shared (set_of sets n)
state_in sets (SharedModified n) = known.SharedModified (set_of sets n)

-- the number of the need, if it has one, is a set's
abbrev pub IsNeedIn : List (List ℕ) → Need → Type 0
IsNeedIn sets Nothing = Unit {0}
IsNeedIn sets Fresh = Unit {0}
IsNeedIn sets (Meet n) = n < length sets

-- the state's number, if it has one, is a set's
abbrev pub IsNumbered : List (List ℕ) → NumberedState → Type 0
IsNumbered sets Virgin = Unit {0}
IsNumbered sets (Exclusive t) = Unit {0}
IsNumbered sets (Shared n) = IsNumberOf sets n (set_of sets n)
IsNumbered sets (SharedModified n) = IsNumberOf sets n (set_of sets n)

-- the number is that of the set which is needed, where the thread has these locks
abbrev pub IsRefined : List (List ℕ) → Need → List ℕ → ℕ → Type 0
IsRefined sets Nothing locks m = Unit {0}
IsRefined sets Fresh locks m = IsNumberOf sets m locks
IsRefined sets (Meet n) locks m = IsNumberOf sets m (meet (set_of sets n) locks)

-- What an access makes of a word's state, with numbers in place of sets. Number 0 is that of the empty set.
use Rattle.std.specs.Prelude.{ℕ, ◌==◌, Bool, false, not, ◌&&◌, cond}
use Rattle.er_event.specs.declared.steps.Kind.{Kind}
use Rattle.er_event.specs.declared.steps.Kind.TheVariants.{Read as reading, Write as writing}
use Rattle.er_owner.specs.declared.states.NumberedState.{NumberedState}
use Rattle.er_owner.specs.declared.states.NumberedState.TheVariants.{Virgin, Exclusive, Shared, SharedModified}
use Rattle.er_owner.specs.declared.states.Need.{Need}
use Rattle.er_owner.specs.declared.states.Need.TheVariants.{Nothing, Fresh, Meet}

-- which set an access by thread t refines the word to
abbrev pub need_of : NumberedState → ℕ → Need
need_of Virgin t = Nothing
need_of (Exclusive u) t = cond (u == t) Nothing Fresh
need_of (Shared set) t = Meet set
need_of (SharedModified set) t = Meet set

-- shared, by the kind of the access that makes it so
abbrev pub shared_at : Kind → ℕ → NumberedState
shared_at reading set = Shared set
shared_at writing set = SharedModified set

-- the state after an access of this kind by thread t, where the set that it needs has this number
abbrev pub advanced_to : NumberedState → ℕ → Kind → ℕ → NumberedState
advanced_to Virgin t kind set = Exclusive t
advanced_to (Exclusive u) t kind set = cond (u == t) (Exclusive u) (shared_at kind set)
advanced_to (Shared old) t kind set = shared_at kind set
advanced_to (SharedModified old) t kind set = SharedModified set

-- the word was written while shared, and no candidate is left
abbrev pub has_no_candidates : NumberedState → Bool
has_no_candidates (SharedModified set) = set == 0
has_no_candidates _ = false

-- a race is reported where a word comes to have been written while shared with no candidate left, and had not been so before
abbrev pub reports_race : NumberedState → NumberedState → Bool
reports_race before after = has_no_candidates after && not (has_no_candidates before)

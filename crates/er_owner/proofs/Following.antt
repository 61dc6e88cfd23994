-- A numbered state follows the table of states: each row of it, with the set for its number.
use Rattle.std.proofs.Common.{◌≡◌, ◌==◌, ℕ, Bool, true, false, not, ◌&&◌, cond, List, refl, sym, ap, ◌∙◌}
use Rattle.er_event.specs.Lockset.{meet}
use Rattle.er_event.specs.declared.steps.Kind.{Kind}
use Rattle.er_event.specs.declared.steps.Kind.TheVariants.{Read as reading, Write as writing}
use Rattle.er_event.specs.declared.steps.WordState.TheVariants as known
use Rattle.er_model.specs.Table.{advanced, shared_by, is_racy, reports}
use Rattle.er_owner.specs.declared.states.NumberedState.{NumberedState}
use Rattle.er_owner.specs.declared.states.NumberedState.TheVariants.{Virgin, Exclusive, Shared, SharedModified}
use Rattle.er_owner.specs.declared.states.Need.TheVariants.{Nothing, Fresh}
use Rattle.er_owner.specs.Advancing.{need_of, shared_at, advanced_to, has_no_candidates, reports_race}
use Rattle.er_owner.specs.Numbering.{set_of, IsNumberOf, state_in, IsNumbered, IsRefined}

shared_follows : (sets : List (List ℕ)) (kind : Kind) (m : ℕ) (set : List ℕ) → IsNumberOf sets m set → state_in sets (shared_at kind m) ≡ shared_by kind set
shared_follows sets reading m set is = ap (λ s. known.Shared s) is.names
shared_follows sets writing m set is = ap (λ s. known.SharedModified s) is.names

-- the state that an access leads to
pub state_follows : (sets : List (List ℕ)) (s : NumberedState) (t : ℕ) (kind : Kind) (locks : List ℕ) (m : ℕ) → IsRefined sets (need_of s t) locks m
    → state_in sets (advanced_to s t kind m) ≡ advanced (state_in sets s) t kind locks
state_follows sets Virgin t kind locks m is = refl
state_follows sets (Exclusive u) t kind locks m is = by (u == t) is
  where
    by : (same : Bool) → IsRefined sets (cond same Nothing Fresh) locks m
        → state_in sets (cond same (Exclusive u) (shared_at kind m)) ≡ cond same (known.Exclusive u) (shared_by kind locks)
    by true is = refl
    by false is = shared_follows sets kind m locks is
state_follows sets (Shared n) t kind locks m is = shared_follows sets kind m (meet (set_of sets n) locks) is
state_follows sets (SharedModified n) t kind locks m is = ap (λ s. known.SharedModified s) is.names

-- a number that is some set's is that of its set
own_number : (sets : List (List ℕ)) (m : ℕ) (set : List ℕ) → IsNumberOf sets m set → IsNumberOf sets m (set_of sets m)
own_number sets m set is = record { within = is.within; names = refl; zero = rw is.names is.zero }

shared_numbered : (sets : List (List ℕ)) (kind : Kind) (m : ℕ) (set : List ℕ) → IsNumberOf sets m set → IsNumbered sets (shared_at kind m)
shared_numbered sets reading m set is = own_number sets m set is
shared_numbered sets writing m set is = own_number sets m set is

-- its number is a set's
pub numbered_follows : (sets : List (List ℕ)) (s : NumberedState) (t : ℕ) (kind : Kind) (locks : List ℕ) (m : ℕ) → IsNumbered sets s → IsRefined sets (need_of s t) locks m
    → IsNumbered sets (advanced_to s t kind m)
numbered_follows sets Virgin t kind locks m was is = tt
numbered_follows sets (Exclusive u) t kind locks m was is = by (u == t) is
  where
    by : (same : Bool) → IsRefined sets (cond same Nothing Fresh) locks m → IsNumbered sets (cond same (Exclusive u) (shared_at kind m))
    by true is = tt
    by false is = shared_numbered sets kind m locks is
numbered_follows sets (Shared n) t kind locks m was is = shared_numbered sets kind m (meet (set_of sets n) locks) is
numbered_follows sets (SharedModified n) t kind locks m was is = own_number sets m (meet (set_of sets n) locks) is

racy_follows : (sets : List (List ℕ)) (s : NumberedState) → IsNumbered sets s → has_no_candidates s ≡ is_racy (state_in sets s)
racy_follows sets Virgin is = refl
racy_follows sets (Exclusive u) is = refl
racy_follows sets (Shared n) is = refl
racy_follows sets (SharedModified n) is = sym is.zero

-- and a race is told where the table tells one
pub race_follows : (sets : List (List ℕ)) (s : NumberedState) (t : ℕ) (kind : Kind) (locks : List ℕ) (m : ℕ) → IsNumbered sets s → IsRefined sets (need_of s t) locks m
    → reports_race s (advanced_to s t kind m) ≡ reports (state_in sets s) (advanced (state_in sets s) t kind locks)
race_follows sets s t kind locks m was is =
    let before = racy_follows sets s was in
    let after = racy_follows sets (advanced_to s t kind m) (numbered_follows sets s t kind locks m was is) ∙ ap is_racy (state_follows sets s t kind locks m is) in
    λ i. after i && not (before i)

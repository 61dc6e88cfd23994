-- What the check finds shows that the access is explained, and what explains an access passes the check.
use Rattle.std.proofs.Common.{◌≡◌, ◌<◌, ◌≤◌, ℕ, suc, List, length, slice_get, Option, Some, None, refl}
use Rattle.std.proofs.lemmas.Option.{slice_get_within}
use Rattle.er_event.specs.declared.steps.Step.{Step}
use Rattle.er_model.specs.Answers.{reading_of}
use Rattle.er_model.specs.Words.{era}
use Rattle.er_model.specs.Explanations.{Explanation, latest, word_of, Explains}
use Rattle.er_model.proofs.Explanations.{access-explained}
use Rattle.er_check.specs.Claims.{Agrees, NamesAccesses}
use Rattle.er_check.proofs.ClaimLemmas.{explains-from, explained-first, explained-names, explained-agrees}

-- a step that accesses a word is there
step_of : (w : ℕ) (o : Option Step) → word_of o ≡ Some w → (s : Step) × (o ≡ Some s)
step_of w None access = cc
step_of w (Some s) access = (s, refl)

pub access-within : (steps : List Step) (w k : ℕ) → word_of (slice_get steps k) ≡ Some w → k < length steps
access-within steps w k access = let s = step_of w (slice_get steps k) access in slice_get_within steps k s.0 s.1

module _ (steps : List Step) (w k start : ℕ) (e : Explanation) (access : word_of (slice_get steps k) ≡ Some w) (begins : start ≡ era (reading_of steps) w (suc k)) where
  pub explains-names : Explains steps e k → NamesAccesses steps w start k e
  explains-names explains =
      let by = access-explained steps k w e access explains in
      let s = step_of w (slice_get steps e.first) (explained-first steps w k e by) in
      rw begins (explained-names steps w k e s.0 s.1 by)

  module _ (s : Step) (is : slice_get steps e.first ≡ Some s) where
    pub agreeing-explains : NamesAccesses steps w start k e → latest e.write e.uncovered ≡ k → ((i : ℕ) → i ≤ k → Agrees w start s.thread e i (reading_of steps i)) → Explains steps e k
    agreeing-explains named ends agrees =
        (w, access, explains-from steps w k e s is (rw begins at named) (λ i below. rw begins at (agrees i below)) ends)

    pub explains-agrees : Explains steps e k → (i : ℕ) → i ≤ k → Agrees w start s.thread e i (reading_of steps i)
    explains-agrees explains i below = rw begins (explained-agrees steps w k e s is (access-explained steps k w e access explains) i)

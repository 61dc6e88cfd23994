-- One more answer in brief is one more answer in full, since the states of earlier shows stay where they are.
use Rattle.std.proofs.Common.{◌≡◌, ℕ, zero, suc, List, [], ◌∷◌, ◌++◌, length, map, take, set, replicate, refl, ap, sym, Result, Ok}
use Rattle.std.specs.List.{All}
use Rattle.std.proofs.lemmas.List.{map-append, map-set, length-map, take-map}
use Rattle.std.proofs.lemmas.List.Elements.{All-head, All-tail}
use Rattle.er_event.specs.declared.refusals.Refusal.{Refusal}
use Rattle.er_event.specs.declared.steps.Reply.{Reply}
use Rattle.er_event.specs.declared.steps.Reply.TheVariants as reply
use Rattle.er_event.specs.declared.steps.WordState.{WordState}
use Rattle.er_journal.specs.declared.answers.Brief.{Brief}
use Rattle.er_journal.specs.declared.answers.Brief.TheVariants.{Done}
use Rattle.er_journal.specs.Inner.Briefs.{answer_of, answers_of, HasState, IsBrief, KeepsStates}

-- briefs in range mean the same of the states that came later
all-kept : (old new : List WordState) (bs : List Brief) → KeepsStates old new → All (HasState (length old)) bs → map (answer_of new) bs ≡ map (answer_of old) bs
all-kept old new [] keeps h = refl
all-kept old new (b ∷ bs) keeps h =
    let first : HasState (length old) b = All-head (HasState (length old)) b bs h in
    let others : All (HasState (length old)) bs = All-tail (HasState (length old)) b bs h in
    rw (keeps.means b first, all-kept old new bs keeps others) refl

module _ (old new : List WordState) (bs : List Brief) (keeps : KeepsStates old new) (h : All (HasState (length old)) bs) where
  -- an answer behind the others
  pub answers-push : (answer : Result Reply Refusal) (b : Brief) → IsBrief new answer b → answers_of new (bs ++ b ∷ []) ≡ answers_of old bs ++ answer ∷ []
  unfolding answers_of
  answers-push answer b brief = rw (map-append (answer_of new) bs (b ∷ []), all-kept old new bs keeps h, brief.means) refl

  -- or in a place
  pub answers-set : (at : ℕ) (answer : Result Reply Refusal) (b : Brief) → IsBrief new answer b → answers_of new (set bs at b) ≡ set (answers_of old bs) at answer
  unfolding answers_of
  answers-set at answer b brief = rw (map-set (answer_of new) bs at b, all-kept old new bs keeps h, brief.means) refl

-- answers that are alike
pub answers-replicate : (n : ℕ) → answers_of [] (replicate n Done) ≡ replicate n (Ok reply.Done)
unfolding answers_of
answers-replicate zero = refl
answers-replicate (suc n) = ap (λ xs. Ok reply.Done ∷ xs) (answers-replicate n)

-- the first of them
pub answers-take : (states : List WordState) (bs : List Brief) (n : ℕ) → answers_of states (take n bs) ≡ take n (answers_of states bs)
unfolding answers_of
answers-take states bs n = sym (take-map (answer_of states) n bs)

pub length-answers : (states : List WordState) (bs : List Brief) → length (answers_of states bs) ≡ length bs
unfolding answers_of
length-answers states bs = length-map bs (answer_of states)

-- A run answers one step more.
use Rattle.std.proofs.Common.{◌≡◌, ℕ, ◌<◌, ◌+◌, Bool, true, false, List, [], ◌∷◌, ◌++◌, length, take, set, Result, Err, IsTrue, IsFalse, IsOk, Some, get_or, slice_get, refl, ap, sym, ◌∙◌, append_assoc, append-nil}
use Rattle.std.proofs.lemmas.List.{take_more, take_more_set}
use Rattle.std.proofs.lemmas.Option.{slice_get_read}
use Rattle.er_event.specs.Refusal.{refusal_of}
use Rattle.er_event.specs.declared.refusals.NoRoom.{NoRoom}
use Rattle.er_event.specs.declared.refusals.NoRoom.TheVariants.{JournalFull, TableFull, OutOfMemory}
use Rattle.er_event.specs.declared.refusals.Refusal.{Refusal}
use Rattle.er_event.specs.declared.steps.Reply.{Reply}
use Rattle.er_event.specs.declared.steps.Step.{Step}
use Rattle.er_model.specs.Answers.{answer_next}
use Rattle.er_model.specs.Runs.{answers_after}
use Rattle.er_model.proofs.Runs.{after-one, after-none}
use Rattle.er_replay.specs.Standing.{Replayed, Stands, found_no_room}

-- what had no room is a refusal of that kind
pub no_room-found : (answer : Result Reply Refusal) (cause : NoRoom) → answer ≡ Err (refusal_of cause) → IsTrue (found_no_room answer)
no_room-found answer JournalFull is = rw is refl
no_room-found answer TableFull is = rw is refl
no_room-found answer OutOfMemory is = rw is refl

-- an error comes only where none is ruled out
pub on_err_unless : {T E : Type 0} (r : Result T E) (e : E) (b : Bool) → r ≡ Err e → (IsFalse b → IsOk r) → IsTrue b
on_err_unless r e true failed free = refl
on_err_unless r e false failed free = rw failed at (free refl)

-- where the steps of a run so far end
pub taken-none : (past : List Step) (machine : Replayed) → Stands machine past → Stands machine (past ++ [])
taken-none past machine stands = rw (append-nil past) stands

pub answered-none : (past : List Step) (answers : List (Result Reply Refusal)) (steps : List Step) → answers ≡ [] → steps ≡ [] → answers ≡ answers_after past steps
answered-none past answers steps none empty = none ∙ sym (ap (answers_after past) empty ∙ after-none past)

module _ (past steps : List Step) (i : ℕ) (step : Step) (within : i < length steps) (is : step ≡ get_or steps i step) where
  next : take (i + 1) steps ≡ take i steps ++ step ∷ []
  next = take_more steps i step within ∙ ap (λ s. take i steps ++ s ∷ []) (sym is)

  pub found : slice_get steps i ≡ Some step
  found = slice_get_read steps (length steps) i step refl within is

  pub next-stands : (machine : Replayed) → Stands machine ((past ++ take i steps) ++ step ∷ []) → Stands machine (past ++ take (i + 1) steps)
  next-stands machine stands = rw next (rw (← append_assoc past (take i steps) (step ∷ [])) stands)

  pub next-answers : (answers : List (Result Reply Refusal)) → length answers ≡ length steps → take i answers ≡ answers_after past (take i steps) →
      take (i + 1) (set answers i (answer_next (past ++ take i steps) step)) ≡ answers_after past (take (i + 1) steps)
  next-answers answers size so_far =
      take_more_set answers i (answer_next (past ++ take i steps) step) (rw size within)
      ∙ ap (λ first. first ++ answer_next (past ++ take i steps) step ∷ []) so_far
      ∙ sym (ap (answers_after past) next ∙ after-one past (take i steps) step)

-- An answer in brief, and the whole one that is made of it.
use Rattle.std.proofs.Common.{◌≡◌, ◌⊎◌, ℕ, false, Result, Ok, Err, IfErr, IsFalse, IsOk, IsTrue, refl, ap, sym, ◌∙◌, ⊎_elim}
use Rattle.er_event.specs.declared.refusals.Refusal.{Refusal}
use Rattle.er_event.specs.declared.refusals.Refusal.TheVariants.{OutOfMemory, TableFull}
use Rattle.er_event.specs.declared.steps.Event.{Event}
use Rattle.er_event.specs.declared.steps.Event.TheVariants.{Acquire, Release, Access, Reuse, IgnoreOn, IgnoreOff, Show, Level, Sync}
use Rattle.er_event.specs.declared.steps.Reply.{Reply}
use Rattle.er_event.specs.declared.steps.WordState.{WordState}
use Rattle.er_journal.specs.AnswerList.{is_state}
use Rattle.er_model.specs.Events.{is_show}
use Rattle.er_model.specs.Holdings.{Holdings}
use Rattle.er_replay.specs.Standing.{found_no_room, in_full}
use Rattle.er_replay.specs.Wants.{is_access, may_want}
use Rattle.er_replay.specs.declared.machine.Brief.{Brief}
use Rattle.er_replay.specs.declared.machine.Brief.TheVariants as brief

-- what a show may want
pub show-wants : (h : Holdings) (states : ℕ → WordState) (t : ℕ) (event : Event) → IsTrue (is_show event) → IsTrue (may_want h states t event OutOfMemory)
show-wants h states t (Show w) shows = refl
show-wants h states t (Acquire l m) shows = cc
show-wants h states t (Release l m) shows = cc
show-wants h states t (Access kind w site) shows = cc
show-wants h states t (Reuse range) shows = cc
show-wants h states t IgnoreOn shows = cc
show-wants h states t IgnoreOff shows = cc
show-wants h states t (Level n) shows = cc
show-wants h states t (Sync sync) shows = cc

pub show-no-access : (event : Event) → IsTrue (is_show event) → is_access event ≡ false
show-no-access (Access kind w site) shows = cc
show-no-access (Show w) shows = refl
show-no-access (Acquire l m) shows = cc
show-no-access (Release l m) shows = cc
show-no-access (Reuse range) shows = cc
show-no-access IgnoreOn shows = cc
show-no-access IgnoreOff shows = cc
show-no-access (Level n) shows = cc
show-no-access (Sync sync) shows = cc

module _ (states : ℕ → WordState) (event : Event) where
  -- a whole answer finds room where the brief one does
  pub full-room : (b : Result Brief Refusal) → found_no_room (in_full states event b) ≡ found_no_room b
  full-room (Ok brief.Done) = refl
  full-room (Ok brief.Quiet) = refl
  full-room (Ok brief.First) = refl
  full-room (Ok brief.Race) = refl
  full-room (Ok brief.Ignored) = refl
  full-room (Ok brief.Shown) = refl
  full-room (Err why) = refl

  -- only a refusal is a refusal
  full-err : (b : Result Brief Refusal) (P : Refusal → Type 0) → IfErr b P → IfErr (in_full states event b) P
  full-err (Ok brief.Done) P is = tt
  full-err (Ok brief.Quiet) P is = tt
  full-err (Ok brief.First) P is = tt
  full-err (Ok brief.Race) P is = tt
  full-err (Ok brief.Ignored) P is = tt
  full-err (Ok brief.Shown) P is = tt
  full-err (Err why) P is = is

  full-state : (b : Result Brief Refusal) → IsTrue (is_state (in_full states event b)) → b ≡ Ok brief.Shown
  full-state (Ok brief.Done) is = cc
  full-state (Ok brief.Quiet) is = cc
  full-state (Ok brief.First) is = cc
  full-state (Ok brief.Race) is = cc
  full-state (Ok brief.Ignored) is = cc
  full-state (Ok brief.Shown) is = refl
  full-state (Err why) is = cc

  full-ok : (b : Result Brief Refusal) → IsOk b → IsOk (in_full states event b)
  full-ok (Ok brief.Done) ok = refl
  full-ok (Ok brief.Quiet) ok = refl
  full-ok (Ok brief.First) ok = refl
  full-ok (Ok brief.Race) ok = refl
  full-ok (Ok brief.Ignored) ok = refl
  full-ok (Ok brief.Shown) ok = refl
  full-ok (Err why) ok = cc

  full-refused : (b : Result Brief Refusal) (why : Refusal) → in_full states event b ≡ Err why → b ≡ Err why
  full-refused (Ok brief.Done) why is = cc
  full-refused (Ok brief.Quiet) why is = cc
  full-refused (Ok brief.First) why is = cc
  full-refused (Ok brief.Race) why is = cc
  full-refused (Ok brief.Ignored) why is = cc
  full-refused (Ok brief.Shown) why is = cc
  full-refused (Err other) why is = let same : other ≡ why = cc in ap Err same

  -- what follows for a whole answer, or for a show that finds no memory
  module _ (b : Result Brief Refusal) (result : Result Reply Refusal) (is : (result ≡ in_full states event b) ⊎ ((b ≡ Ok brief.Shown) × (result ≡ Err OutOfMemory))) where
    pub brief-room : IsFalse (found_no_room result) → IsFalse (found_no_room b)
    brief-room room = ⊎_elim (λ full. sym (full-room b) ∙ ap found_no_room (sym full) ∙ room) (λ lacks. ap found_no_room lacks.0) is

    pub whole : IsFalse (found_no_room result) → result ≡ in_full states event b
    whole room = ⊎_elim (λ full. full) (λ lacks. let never = rw lacks.1 at room in cc) is

    pub if_err : (P : Refusal → Type 0) → IfErr b P → (b ≡ Ok brief.Shown → P OutOfMemory) → IfErr result P
    if_err P failed shown = ⊎_elim (λ full. rw full (full-err b P failed)) (λ lacks. rw lacks.1 (shown lacks.0)) is

    pub refused : (why : Refusal) → b ≡ Err why → result ≡ Err why
    refused why so = ⊎_elim (λ full. full ∙ ap (in_full states event) so) (λ lacks. let never = lacks.0 in cc) is

    pub shows : IsTrue (is_state result) → b ≡ Ok brief.Shown
    shows state = ⊎_elim (λ full. full-state b (rw full at state)) (λ lacks. lacks.0) is

    pub full-table : result ≡ Err TableFull → b ≡ Err TableFull
    full-table so = ⊎_elim (λ full. full-refused b TableFull (sym full ∙ so)) (λ lacks. let never = lacks.1 in cc) is

    pub answers : IsOk b → (b ≡ Ok brief.Shown → ⊥) → IsOk result
    answers ok never = ⊎_elim (λ full. rw full (full-ok b ok)) (λ lacks. absurd (never lacks.0)) is

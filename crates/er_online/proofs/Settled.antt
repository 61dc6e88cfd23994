-- Accesses that leave a word's state as it is: they are quiet, and so is each later one that finds that state.
use Rattle.std.proofs.Common.{◌≡◌, ◌==◌, ◌∙◌, ℕ, Bool, true, false, cond, List, [], ◌∷◌, ◌++◌, refl, ap, sym, subst}
use Rattle.std.proofs.lemmas.Bool.{eq-eqb, eqb-true, cond-true}
use Rattle.er_event.specs.declared.steps.Kind.{Kind}
use Rattle.er_event.specs.declared.steps.Reply.TheVariants.{Race, Quiet}
use Rattle.er_event.specs.declared.steps.WordState.{WordState}
use Rattle.er_model.specs.Parts.{FitsEnd, state_of_notes}
use Rattle.er_model.specs.Table.{advanced, moved, reports}
use Rattle.er_model.specs.Words.{Counted}
use Rattle.er_model.proofs.Parts.{state-noted}
use Rattle.er_shadow.proofs.Settled.{stays_quiet}
use Rattle.er_shadow.specs.Replies.{reply_if}
use Rattle.er_shadow.specs.Shadows.{Shadows, states}
use Rattle.er_online.specs.declared.calls.ShardCall.{ShardCall}
use Rattle.er_online.specs.Taken.{HasSameStates, IsReplay, access_of, mark_of, note_of, notes_of, state_now}
use Rattle.er_online.proofs.Growing.{notes-grow}

-- each word's state after one call more
pub state-grows : (calls : List (ShardCall × List ℕ)) (call : ShardCall) (cover : List ℕ) (w : ℕ) → state_now (calls ++ (call, cover) ∷ []) w ≡ moved (state_now calls w) w (mark_of call cover)
state-grows calls call cover w = ap (λ notes. state_of_notes notes w) (notes-grow calls (call, cover)) ∙ state-noted (notes_of calls) (note_of (call, cover)) w

-- an access that leaves its word's state leaves those of all words
moves-none : (state : ℕ → WordState) (thread : ℕ) (kind : Kind) (word : ℕ) (cover : List ℕ) → advanced (state word) thread kind cover ≡ state word
    → (w : ℕ) → moved (state w) w (Counted thread kind word cover) ≡ state w
moves-none state thread kind word cover same w = by (word == w) refl
  where
    by : (b : Bool) → (word == w) ≡ b → cond b (advanced (state w) thread kind cover) (state w) ≡ state w
    by true e = subst (λ (v : ℕ). advanced (state v) thread kind cover ≡ state v) (eqb-true word w e) same
    by false e = refl

-- what an access that is counted makes of its own word
moves-own : (state : WordState) (thread : ℕ) (kind : Kind) (word : ℕ) (cover : List ℕ) → moved state word (Counted thread kind word cover) ≡ advanced state thread kind cover
moves-own state thread kind word cover = cond-true (word == word) (advanced state thread kind cover) state (eq-eqb word word refl)

-- where an access left its word's state once, it leaves it wherever it finds that state
pub stays : (before later : List (ShardCall × List ℕ)) (thread : ℕ) (kind : Kind) (word : ℕ) (race : Bool) (cover : List ℕ)
    → state_now (before ++ (access_of thread kind word race, cover) ∷ []) word ≡ state_now before word → state_now later word ≡ state_now before word
    → advanced (state_now later word) thread kind cover ≡ state_now later word
stays before later thread kind word race cover left found =
    let once = sym (moves-own (state_now before word) thread kind word cover) ∙ (sym (state-grows before (access_of thread kind word race) cover word) ∙ left) in
    subst (λ (s : WordState). advanced s thread kind cover ≡ s) (sym found) once

-- then it is quiet
pub fits-quiet : (later : List (ShardCall × List ℕ)) (thread : ℕ) (kind : Kind) (word : ℕ) (cover : List ℕ) → advanced (state_now later word) thread kind cover ≡ state_now later word
    → FitsEnd (notes_of later) (Counted thread kind word cover) (reply_if false)
fits-quiet later thread kind word cover same = sym (ap (λ r. cond r Race Quiet) (stays_quiet (state_now later word) _ same))

-- and leaves each word's state
pub leaves-all : (later : List (ShardCall × List ℕ)) (thread : ℕ) (kind : Kind) (word : ℕ) (race : Bool) (cover : List ℕ)
    → advanced (state_now later word) thread kind cover ≡ state_now later word → HasSameStates later (later ++ (access_of thread kind word race, cover) ∷ [])
leaves-all later thread kind word race cover same w =
    state-grows later (access_of thread kind word race) cover w ∙ moves-none (λ v. state_now later v) thread kind word cover same w

-- words that are as they were stand for lists with the same states
pub same-states : (before after : List (ShardCall × List ℕ)) (old new : Shadows) → IsReplay before old → IsReplay after new → ((w : ℕ) → states new w ≡ states old w)
    → HasSameStates before after
same-states before after old new was is same w = sym (is.states w) ∙ (same w ∙ was.states w)

-- a word that is as it was had no race
pub same-quiet : (old new : Shadows) (thread : ℕ) (kind : Kind) (word : ℕ) (cover : List ℕ) (race : Bool)
    → ((w : ℕ) → states new w ≡ moved (states old w) w (Counted thread kind word cover)) → ((w : ℕ) → states new w ≡ states old w)
    → race ≡ reports (states old word) (advanced (states old word) thread kind cover) → race ≡ false
same-quiet old new thread kind word cover race moves same is =
    is ∙ stays_quiet (states old word) _ (sym (moves-own (states old word) thread kind word cover) ∙ (sym (moves word) ∙ same word))

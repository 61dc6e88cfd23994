-- A shard's words go on being the replay of the calls, while the list grows by one call.
use Rattle.std.proofs.Common.{◌≡◌, ◌∙◌, Bool, ℕ, List, [], ◌∷◌, ◌++◌, slice_get, Some, sym, ap, cond}
use Rattle.std.proofs.lemmas.List.{map-append}
use Rattle.er_event.specs.declared.steps.Reply.TheVariants.{Race, Quiet}
use Rattle.er_event.specs.declared.steps.Kind.{Kind}
use Rattle.er_event.specs.declared.steps.WordState.TheVariants.{Virgin}
use Rattle.er_model.specs.Parts.{Noted, as_reading, FitsEnd, state_of_notes}
use Rattle.er_model.specs.Table.{advanced, moved, reports}
use Rattle.er_model.specs.Words.{Counted}
use Rattle.er_model.proofs.Parts.{legal-grow, state-noted}
use Rattle.er_model.proofs.Prefixes.{state-start}
use Rattle.er_shadow.specs.Shadows.{Shadows, states}
use Rattle.er_online.specs.declared.calls.ShardCall.{ShardCall}
use Rattle.er_online.specs.Taken.{IsReplay, mark_of, reply_of, note_of, notes_of}

pub notes-grow : (calls : List (ShardCall × List ℕ)) (call : ShardCall × List ℕ) → notes_of (calls ++ call ∷ []) ≡ notes_of calls ++ note_of call ∷ []
notes-grow calls call = map-append note_of calls (call ∷ [])

no_notes : (k : ℕ) (noted : Noted) → slice_get [] k ≡ Some noted → ⊥
no_notes k noted is = cc

-- words that are all virgin are the replay of no calls
pub replay-starts : (calls : List (ShardCall × List ℕ)) (words : Shadows) → calls ≡ [] → ((w : ℕ) → states words w ≡ Virgin) → IsReplay calls words
replay-starts calls words none virgin = rw none (record {
  legal = λ k noted is. absurd (no_notes k noted is);
  states = λ w. virgin w ∙ sym (state-start (as_reading []) w);
})

-- an access of words that are the replay of the calls is answered as the list says
pub access-fits : (calls : List (ShardCall × List ℕ)) (words : Shadows) (thread : ℕ) (kind : Kind) (word : ℕ) (cover : List ℕ) (race : Bool) → IsReplay calls words
    → race ≡ reports (states words word) (advanced (states words word) thread kind cover)
    → FitsEnd (notes_of calls) (Counted thread kind word cover) (cond race Race Quiet)
access-fits calls words thread kind word cover race was is =
    ap (λ r. cond r Race Quiet) is ∙ ap (λ s. cond (reports s (advanced s thread kind cover)) Race Quiet) (was.states word)

-- where the words move as one more call says, and its answer fits, they are the replay of the longer list
pub replay-grows : (calls now : List (ShardCall × List ℕ)) (before after : Shadows) (call : ShardCall) (cover : List ℕ) → IsReplay calls before
    → now ≡ calls ++ (call, cover) ∷ []
    → FitsEnd (notes_of calls) (mark_of call cover) (reply_of call)
    → ((w : ℕ) → states after w ≡ moved (states before w) w (mark_of call cover))
    → IsReplay now after
replay-grows calls now before after call cover was grown fits moves = rw grown (record {
  legal = rw (notes-grow calls (call, cover)) (legal-grow (notes_of calls) (note_of (call, cover)) was.legal fits);
  states = λ w. moves w ∙ (ap (λ s. moved s w (mark_of call cover)) (was.states w)
      ∙ sym (ap (λ notes. state_of_notes notes w) (notes-grow calls (call, cover)) ∙ state-noted (notes_of calls) (note_of (call, cover)) w));
})

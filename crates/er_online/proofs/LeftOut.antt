-- What a shard was told and all that was made go on side by side.
use Rattle.std.proofs.Common.{◌≡◌, ◌∙◌, ℕ, false, List, [], ◌∷◌, ◌++◌, length, slice_get, Some, ◌<◌, refl, sym, ap, subst, cond}
use Rattle.std.proofs.lemmas.List.{map-append, append_assoc, append-nil}
use Rattle.er_event.proofs.Lists.{get_front, get_seam}
use Rattle.er_event.specs.declared.steps.Reply.TheVariants.{Race, Quiet}
use Rattle.er_model.specs.Parts.{FitsEnd, IsLegal, Noted, as_reading, mark_in}
use Rattle.er_model.specs.Table.{advanced, moved, reports}
use Rattle.er_model.proofs.AnswersLemmas.{reported-access}
use Rattle.er_model.proofs.Parts.{legal-grow}
use Rattle.er_model.proofs.Prefixes.{state-agree}
use Rattle.er_online.specs.LeftOut.{AreSettled, IsSettledAgain, Made, Told, LeftOut, all_of, told_of}
use Rattle.er_online.specs.Taken.{HasSameStates, access_of, mark_of, note_of, notes_of, reply_of, state_now}
use Rattle.er_online.specs.declared.calls.ShardCall.{ShardCall}
use Rattle.er_online.specs.declared.calls.ShardCall.TheVariants.{Access, Reset}
use Rattle.er_online.proofs.Growing.{notes-grow}
use Rattle.er_online.proofs.Settled.{state-grows, stays, fits-quiet, leaves-all}

module _ (notes rest : List Noted) where
  -- the reading of a longer list is the same as far as the shorter one goes
  front : (noted : Noted) (k : ℕ) → k < length notes → as_reading (notes ++ noted ∷ rest) k ≡ as_reading notes k
  front noted k low = ap mark_in (get_front notes (noted ∷ rest) k low)

-- in a list whose answers are the definitions' each call's answer is the one that those before it give
fits-within : (calls rest : List (ShardCall × List ℕ)) (call : ShardCall) (cover : List ℕ) → IsLegal (notes_of (calls ++ (call, cover) ∷ rest))
    → FitsEnd (notes_of calls) (mark_of call cover) (reply_of call)
fits-within calls rest (Access thread kind word race) cover legal =
    let notes = notes_of calls in
    let noted = note_of (Access thread kind word race, cover) in
    let whole = notes ++ noted ∷ notes_of rest in
    let all : IsLegal whole = subst IsLegal (map-append note_of calls ((Access thread kind word race, cover) ∷ rest)) legal in
    let there = get_seam notes (notes_of rest) noted in
    all (length notes) noted there
    ∙ rw (
      reported-access (as_reading whole) word (length notes) thread kind cover (ap mark_in there),
      state-agree (as_reading whole) (as_reading notes) word (length notes) (λ k low. front notes (notes_of rest) noted k low),
    ) refl
fits-within calls rest (Reset range) cover legal = refl

-- an answer depends on the words' states alone
fits-same : (calls others : List (ShardCall × List ℕ)) (call : ShardCall) (cover : List ℕ) → HasSameStates calls others
    → FitsEnd (notes_of calls) (mark_of call cover) (reply_of call) → FitsEnd (notes_of others) (mark_of call cover) (reply_of call)
fits-same calls others (Access thread kind word race) cover same fits =
    fits ∙ ap (λ s. cond (reports s (advanced s thread kind cover)) Race Quiet) (sym (same word))
fits-same calls others (Reset range) cover same fits = refl

-- a list whose answers are the definitions', with one more
legal-more : (calls : List (ShardCall × List ℕ)) (call : ShardCall) (cover : List ℕ) → IsLegal (notes_of calls) → FitsEnd (notes_of calls) (mark_of call cover) (reply_of call)
    → IsLegal (notes_of (calls ++ (call, cover) ∷ []))
legal-more calls call cover legal fits = rw (notes-grow calls (call, cover)) (legal-grow (notes_of calls) (note_of (call, cover)) legal fits)

-- the same call after lists with the same states
same-more : (calls others : List (ShardCall × List ℕ)) (call : ShardCall) (cover : List ℕ) → HasSameStates calls others
    → HasSameStates (calls ++ (call, cover) ∷ []) (others ++ (call, cover) ∷ [])
same-more calls others call cover same w =
    state-grows others call cover w ∙ (ap (λ s. moved s w (mark_of call cover)) (same w) ∙ sym (state-grows calls call cover w))

-- one that was settled before is quiet, and leaves all as it is
leave : (told all : List (ShardCall × List ℕ)) (call : ShardCall × List ℕ) → HasSameStates told all → IsLegal (notes_of all) → IsSettledAgain told call
    → IsLegal (notes_of (all ++ call ∷ [])) × HasSameStates told (all ++ call ∷ [])
leave told all call same legal was =
    let left = subst (λ c. state_now (was.before ++ c ∷ []) was.word ≡ state_now was.before was.word) was.access was.left in
    let stay = stays was.before all was.thread was.kind was.word false was.cover left (same was.word ∙ was.again) in
    rw was.access (
      legal-more all (access_of was.thread was.kind was.word false) was.cover legal (fits-quiet all was.thread was.kind was.word was.cover stay),
      λ w. leaves-all all was.thread was.kind was.word false was.cover stay w ∙ same w,
    )

nothing : (k : ℕ) (noted : Noted) → slice_get [] k ≡ Some noted → ⊥
nothing k noted is = cc

pub legal-none : IsLegal (notes_of [])
legal-none = λ k noted is. absurd (nothing k noted is)

-- the lists so far have the same states, and go on
pub go-on : (told all : List (ShardCall × List ℕ)) (made : List Made) → HasSameStates told all → IsLegal (notes_of all) → AreSettled told made
    → IsLegal (notes_of (told ++ told_of made)) → IsLegal (notes_of (all ++ all_of made)) × HasSameStates (told ++ told_of made) (all ++ all_of made)
unfolding told_of AreSettled
go-on told all [] same legal settled ends = (rw (append-nil all) legal, rw (append-nil told, append-nil all) same)
go-on told all (Told (call, cover) ∷ made) same legal settled ends =
    let fits = fits-same told all call cover same (fits-within told (told_of made) call cover ends) in
    rw (← append_assoc told ((call, cover) ∷ []) (told_of made), ← append_assoc all ((call, cover) ∷ []) (all_of made))
    (go-on (told ++ (call, cover) ∷ []) (all ++ (call, cover) ∷ []) made (same-more told all call cover same) (legal-more all call cover legal fits) settled
    (rw (append_assoc told ((call, cover) ∷ []) (told_of made)) ends))
go-on told all (LeftOut call ∷ made) same legal settled ends =
    let step = leave told all call same legal settled.0 in
    rw (← append_assoc all (call ∷ []) (all_of made)) (go-on told (all ++ call ∷ []) made step.1 step.0 settled.1 ends)

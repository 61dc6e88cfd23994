-- The word's page was found, or made for it: in each case one word of one page is written, or none.
use Rattle.std.proofs.Common.{◌≡◌, ◌∙◌, ℕ, Bool, true, false, not, true≢false, IsTrue, sym, subst, refl, ap}
use Rattle.er_model.specs.Words.{Counted}
use Rattle.er_model.specs.Table.{advanced, moved, reports}
use Rattle.er_event.specs.declared.steps.WordState.{WordState}
use Rattle.er_event.specs.declared.steps.WordState.TheVariants as known
use Rattle.er_owner.specs.Numbering.{IsNumbered, state_in}
use Rattle.er_shadow.specs.Shadows.{Shadows, states, needs_set}
use Rattle.er_shadow.specs.declared.map.Words.TheInside.{Inside}
use Rattle.er_shadow.proofs.Moves.{found_word, state_found, state_absent, unwritten_page, written_page, made_page, all_numbered, all_kept, states_kept, states_put, needs_from_need, own_needs_nothing, put_same, keeps_all}
use Rattle.er_event.proofs.Results.{on_err_of}
use Rattle.er_keys.proofs.MapLemmas.{entry_found, entry_put}
use Rattle.indexmap.specs.IndexMap.{with_value_at}
use Rattle.er_shadow.proofs.map.Words.access_noting.Goals as goal

-- what contracts see of the fields
abbrev seen : {S : Type 0} → Inside S → Shadows
seen inside = record { pages = inside.pages.entries; sets = inside.known }

pub step-requires : goal.step-requires
step-requires g c =
    let found = found_word c.self.inside.pages.entries c.args.word c.page-number.result c.place_of-place.result _ c.get-before.result c.page-number.ensures c.place_of-place.ensures (entry_found c.self.inside.pages c.in-Some.index c.page-number.result c.index_mut-page.result.now c.in-Some.ensures.unique c.in-Some.ensures.key c.index_mut-page.ensures.value) c.get-before.ensures in
    subst (λ s. IsNumbered c.self.inside.known s) (sym found) (c.self.invariant c.args.word)

pub invariant_of-self : goal.invariant_of-self
invariant_of-self g c =
    let same = unwritten_page c.self.inside.pages.entries (with_value_at c.self.inside.pages c.in-Some.index c.index_mut-page.result.now).entries c.page-number.result c.index_mut-page.result.now (entry_found c.self.inside.pages c.in-Some.index c.page-number.result c.index_mut-page.result.now c.in-Some.ensures.unique c.in-Some.ensures.key c.index_mut-page.ensures.value) (entry_put c.self.inside.pages c.in-Some.index c.page-number.result c.index_mut-page.result.now c.in-Some.ensures.unique c.in-Some.ensures.key c.index_mut-page.ensures.value c.index_mut-page.result.now) in
    all_kept (seen c.self.inside) (record { pages = (with_value_at c.self.inside.pages c.in-Some.index c.index_mut-page.result.now).entries; sets = c.step.new.known }) c.step.ensures.kept c.self.invariant same

pub returns-in_err-shadow-in-Some-clause-err : goal.returns-in_err-shadow-in-Some-clause-err
returns-in_err-shadow-in-Some-clause-err g c =
    let same = unwritten_page c.self.inside.pages.entries (with_value_at c.self.inside.pages c.in-Some.index c.index_mut-page.result.now).entries c.page-number.result c.index_mut-page.result.now (entry_found c.self.inside.pages c.in-Some.index c.page-number.result c.index_mut-page.result.now c.in-Some.ensures.unique c.in-Some.ensures.key c.index_mut-page.ensures.value) (entry_put c.self.inside.pages c.in-Some.index c.page-number.result c.index_mut-page.result.now c.in-Some.ensures.unique c.in-Some.ensures.key c.index_mut-page.ensures.value c.index_mut-page.result.now) in
    let after : Shadows = record { pages = (with_value_at c.self.inside.pages c.in-Some.index c.index_mut-page.result.now).entries; sets = c.step.new.known } in
    let kept = states_kept (seen c.self.inside) after c.step.ensures.kept c.self.invariant same in
    on_err_of c.from_residual.result _ (subst (λ before. (w : ℕ) → states after w ≡ states before w) c.self.view_is kept)

pub returns-in_err-shadow-in-Some-clause-full : goal.returns-in_err-shadow-in-Some-clause-full
returns-in_err-shadow-in-Some-clause-full g c = λ full.
    let found = found_word c.self.inside.pages.entries c.args.word c.page-number.result c.place_of-place.result _ c.get-before.result c.page-number.ensures c.place_of-place.ensures (entry_found c.self.inside.pages c.in-Some.index c.page-number.result c.index_mut-page.result.now c.in-Some.ensures.unique c.in-Some.ensures.key c.index_mut-page.ensures.value) c.get-before.ensures in
    let needs = needs_from_need c.self.inside.known c.get-before.result c.args.thread (λ nothing. true≢false (sym (c.in_err-shadow-in-Some.ensures.free nothing))) in
    subst (λ before. IsTrue (needs_set (states before c.args.word) c.args.thread)) c.self.view_is
    (subst (λ state. IsTrue (needs_set state c.args.thread)) (state_found (seen c.self.inside) c.args.word c.get-before.result found) needs)

pub invariant_of-self-in-Some : goal.invariant_of-self-in-Some
invariant_of-self-in-Some g c =
    let written = written_page c.self.inside.pages.entries (with_value_at c.self.inside.pages c.in-Some.index c.set.new.self).entries c.args.word c.page-number.result c.place_of-place.result c.index_mut-page.result.now c.set.new.self c.in_ok-shadow-in-Some.shadow
    c.page-number.ensures c.place_of-place.ensures (entry_found c.self.inside.pages c.in-Some.index c.page-number.result c.index_mut-page.result.now c.in-Some.ensures.unique c.in-Some.ensures.key c.index_mut-page.ensures.value) (entry_put c.self.inside.pages c.in-Some.index c.page-number.result c.index_mut-page.result.now c.in-Some.ensures.unique c.in-Some.ensures.key c.index_mut-page.ensures.value c.set.new.self) c.set.ensures in
    all_numbered (seen c.self.inside) (record { pages = (with_value_at c.self.inside.pages c.in-Some.index c.set.new.self).entries; sets = c.step.new.known }) _ c.in_ok-shadow-in-Some.shadow c.step.ensures.kept c.self.invariant c.in_ok-shadow-in-Some.ensures.numbered written

pub returns-in_ok-shadow-in-Some-clause-ok : goal.returns-in_ok-shadow-in-Some-clause-ok
returns-in_ok-shadow-in-Some-clause-ok g c =
    let found = found_word c.self.inside.pages.entries c.args.word c.page-number.result c.place_of-place.result _ c.get-before.result c.page-number.ensures c.place_of-place.ensures (entry_found c.self.inside.pages c.in-Some.index c.page-number.result c.index_mut-page.result.now c.in-Some.ensures.unique c.in-Some.ensures.key c.index_mut-page.ensures.value) c.get-before.ensures in
    let written = written_page c.self.inside.pages.entries (with_value_at c.self.inside.pages c.in-Some.index c.set.new.self).entries c.args.word c.page-number.result c.place_of-place.result c.index_mut-page.result.now c.set.new.self c.in_ok-shadow-in-Some.shadow
    c.page-number.ensures c.place_of-place.ensures (entry_found c.self.inside.pages c.in-Some.index c.page-number.result c.index_mut-page.result.now c.in-Some.ensures.unique c.in-Some.ensures.key c.index_mut-page.ensures.value) (entry_put c.self.inside.pages c.in-Some.index c.page-number.result c.index_mut-page.result.now c.in-Some.ensures.unique c.in-Some.ensures.key c.index_mut-page.ensures.value c.set.new.self) c.set.ensures in
    let after : Shadows = record { pages = (with_value_at c.self.inside.pages c.in-Some.index c.set.new.self).entries; sets = c.step.new.known } in
    let advances = subst (λ before. state_in c.step.new.known c.in_ok-shadow-in-Some.shadow ≡ advanced before c.args.thread c.args.kind c.args.locks.now) (state_found (seen c.self.inside) c.args.word c.get-before.result found) c.in_ok-shadow-in-Some.ensures.state in
    subst (λ before. (w : ℕ) → states after w ≡ moved (states before w) w (Counted c.args.thread c.args.kind c.args.word c.args.locks.now)) c.self.view_is
    (states_put (seen c.self.inside) after c.args.word c.in_ok-shadow-in-Some.shadow c.step.ensures.kept c.self.invariant written c.args.thread c.args.kind c.args.locks.now advances)

pub returns-in_ok-shadow-in-Some-clause-reply : goal.returns-in_ok-shadow-in-Some-clause-reply
returns-in_ok-shadow-in-Some-clause-reply g c =
    let found = found_word c.self.inside.pages.entries c.args.word c.page-number.result c.place_of-place.result _ c.get-before.result c.page-number.ensures c.place_of-place.ensures (entry_found c.self.inside.pages c.in-Some.index c.page-number.result c.index_mut-page.result.now c.in-Some.ensures.unique c.in-Some.ensures.key c.index_mut-page.ensures.value) c.get-before.ensures in
    let told = subst (λ before. c.in_ok-shadow-in-Some.is_race ≡ reports before (advanced before c.args.thread c.args.kind c.args.locks.now)) (state_found (seen c.self.inside) c.args.word c.get-before.result found) c.in_ok-shadow-in-Some.ensures.race in
    subst (λ before. c.in_ok-shadow-in-Some.is_race ≡ reports (states before c.args.word) (advanced (states before c.args.word) c.args.thread c.args.kind c.args.locks.now)) c.self.view_is told

pub invariant_of-self-in-None : goal.invariant_of-self-in-None
invariant_of-self-in-None g c =
    let written = made_page c.self.inside.pages.entries c.insert.new.self.entries c.args.word c.page-number.result c.place_of-place.result c.in_ok-page-in-None.page c.set-in-None.new.self c.exclusive.result
    c.page-number.ensures c.place_of-place.ensures c.in-None.ensures.none c.in_ok-insert-in-None.ensures.updates.0 c.in_ok-page-in-None.ensures c.set-in-None.ensures in
    let is = subst (λ s. IsNumbered c.self.inside.known s) (sym c.exclusive.ensures) tt in
    all_numbered (seen c.self.inside) (record { pages = c.insert.new.self.entries; sets = c.self.inside.known }) _ c.exclusive.result (keeps_all c.self.inside.known) c.self.invariant is
    written

pub returns-in_ok-insert-in-None-clause-ok : goal.returns-in_ok-insert-in-None-clause-ok
returns-in_ok-insert-in-None-clause-ok g c =
    let written = made_page c.self.inside.pages.entries c.insert.new.self.entries c.args.word c.page-number.result c.place_of-place.result c.in_ok-page-in-None.page c.set-in-None.new.self c.exclusive.result
    c.page-number.ensures c.place_of-place.ensures c.in-None.ensures.none c.in_ok-insert-in-None.ensures.updates.0 c.in_ok-page-in-None.ensures c.set-in-None.ensures in
    let after : Shadows = record { pages = c.insert.new.self.entries; sets = c.self.inside.known } in
    let virgin = state_absent (seen c.self.inside) c.args.word c.page-number.result c.page-number.ensures c.in-None.ensures.none in
    let advances = ap (state_in c.self.inside.known) c.exclusive.ensures ∙ ap (λ s. advanced s c.args.thread c.args.kind c.args.locks.now) (sym virgin) in
    subst (λ v. (w : ℕ) → states after w ≡ moved (states v w) w (Counted c.args.thread c.args.kind c.args.word c.args.locks.now)) c.self.view_is
    (states_put (seen c.self.inside) after c.args.word c.exclusive.result (keeps_all c.self.inside.known) c.self.invariant
    written c.args.thread c.args.kind c.args.locks.now advances)

pub returns-in_ok-insert-in-None-clause-reply : goal.returns-in_ok-insert-in-None-clause-reply
returns-in_ok-insert-in-None-clause-reply g c =
    let virgin = state_absent (seen c.self.inside) c.args.word c.page-number.result c.page-number.ensures c.in-None.ensures.none in
    subst (λ v. false ≡ reports (states v c.args.word) (advanced (states v c.args.word) c.args.thread c.args.kind c.args.locks.now)) c.self.view_is
    (ap (λ s. reports s (advanced s c.args.thread c.args.kind c.args.locks.now)) (sym virgin))

virgin_is_not_owned : (s : WordState) (t : ℕ) → s ≡ known.Virgin → s ≡ known.Exclusive t → ⊥
virgin_is_not_owned s t virgin own = cc

pub returns-in_err-shadow-in-Some-clause-own : goal.returns-in_err-shadow-in-Some-clause-own
returns-in_err-shadow-in-Some-clause-own g c = λ own.
    let found = found_word c.self.inside.pages.entries c.args.word c.page-number.result c.place_of-place.result _ c.get-before.result c.page-number.ensures c.place_of-place.ensures (entry_found c.self.inside.pages c.in-Some.index c.page-number.result c.index_mut-page.result.now c.in-Some.ensures.unique c.in-Some.ensures.key c.index_mut-page.ensures.value) c.get-before.ensures in
    let before = state_found (seen c.self.inside) c.args.word c.get-before.result found ∙ (ap (λ (v : Shadows). states v c.args.word) c.self.view_is ∙ own) in
    absurd (true≢false (sym (c.in_err-shadow-in-Some.ensures.free (own_needs_nothing c.self.inside.known c.get-before.result c.args.thread before))))

pub returns-in_err-page-in-None-clause-own : goal.returns-in_err-page-in-None-clause-own
returns-in_err-page-in-None-clause-own g c = λ own.
    let virgin = state_absent (seen c.self.inside) c.args.word c.page-number.result c.page-number.ensures c.in-None.ensures.none in
    absurd (virgin_is_not_owned _ c.args.thread virgin (ap (λ (v : Shadows). states v c.args.word) c.self.view_is ∙ own))

pub returns-in_err-insert-in-None-clause-own : goal.returns-in_err-insert-in-None-clause-own
returns-in_err-insert-in-None-clause-own g c = λ own.
    let virgin = state_absent (seen c.self.inside) c.args.word c.page-number.result c.page-number.ensures c.in-None.ensures.none in
    absurd (virgin_is_not_owned _ c.args.thread virgin (ap (λ (v : Shadows). states v c.args.word) c.self.view_is ∙ own))

not_false : (b : Bool) → not b ≡ false → IsTrue b
not_false true e = refl
not_false false e = sym e

pub returns-in_ok-shadow-in-Some-clause-unchanged : goal.returns-in_ok-shadow-in-Some-clause-unchanged
returns-in_ok-shadow-in-Some-clause-unchanged g c = λ same.
    let found = found_word c.self.inside.pages.entries c.args.word c.page-number.result c.place_of-place.result _ c.get-before.result c.page-number.ensures c.place_of-place.ensures (entry_found c.self.inside.pages c.in-Some.index c.page-number.result c.index_mut-page.result.now c.in-Some.ensures.unique c.in-Some.ensures.key c.index_mut-page.ensures.value) c.get-before.ensures in
    let written = written_page c.self.inside.pages.entries (with_value_at c.self.inside.pages c.in-Some.index c.set.new.self).entries c.args.word c.page-number.result c.place_of-place.result c.index_mut-page.result.now c.set.new.self c.in_ok-shadow-in-Some.shadow
    c.page-number.ensures c.place_of-place.ensures (entry_found c.self.inside.pages c.in-Some.index c.page-number.result c.index_mut-page.result.now c.in-Some.ensures.unique c.in-Some.ensures.key c.index_mut-page.ensures.value) (entry_put c.self.inside.pages c.in-Some.index c.page-number.result c.index_mut-page.result.now c.in-Some.ensures.unique c.in-Some.ensures.key c.index_mut-page.ensures.value c.set.new.self) c.set.ensures in
    let after : Shadows = record { pages = (with_value_at c.self.inside.pages c.in-Some.index c.set.new.self).entries; sets = c.step.new.known } in
    let kept = states_kept (seen c.self.inside) after c.step.ensures.kept c.self.invariant (put_same c.self.inside.pages.entries _ c.args.word c.in_ok-shadow-in-Some.shadow (c.eq-same.ensures.same.0 (not_false c.eq-same.result same) ∙ found) written) in
    subst (λ before. (w : ℕ) → states after w ≡ states before w) c.self.view_is kept

-- The word that is found stays as it is, or is written for the first time.
use Rattle.std.proofs.Common.{◌≡◌, ◌∙◌, ◌==◌, ℕ, false, cond, IsTrue, sym, subst, refl, ap, rules}
use Rattle.er_event.specs.declared.steps.WordState.{WordState}
use Rattle.er_event.specs.declared.steps.WordState.TheVariants as known
use Rattle.er_model.specs.Words.{Counted}
use Rattle.er_model.specs.Table.{advanced, moved, reports}
use Rattle.er_owner.specs.Numbering.{IsNumbered, state_in}
use Rattle.er_shadow.specs.Shadows.{Shadows, states, numbered_state}
use Rattle.er_shadow.specs.declared.map.Words.TheInside.{Inside}
use Rattle.er_shadow.proofs.Moves.{found_word, state_found, written_page, all_numbered, keeps_all, states_put}
use Rattle.er_keys.proofs.MapLemmas.{entry_found, entry_put}
use Rattle.indexmap.specs.IndexMap.{with_value_at}
use Rattle.er_shadow.proofs.Settled.{stays_quiet, all_stay}
use Rattle.er_shadow.proofs.map.Words.access_quickly.Given.{Over}
use Rattle.er_shadow.proofs.map.Words.access_quickly.Goals as goal
use Rattle.er_shadow.proofs.map.Words.access_quickly.Goals.{After-get-shadow, After-set}

-- what contracts see of the fields
abbrev pub seen : {S : Type 0} → Inside S → Shadows
seen inside = record { pages = inside.pages.entries; sets = inside.known }

found : (g : Over) (c : After-get-shadow g) → c.get-shadow.result ≡ numbered_state c.self.inside.pages.entries c.args.word
found g c =
    found_word c.self.inside.pages.entries c.args.word c.page-number.result c.place_of-place.result _ c.get-shadow.result c.page-number.ensures c.place_of-place.ensures
    (entry_found c.self.inside.pages c.in_ok-index.index c.page-number.result c.index.result.now c.in_ok-index.ensures.unique c.in_ok-index.ensures.key c.index.ensures) c.get-shadow.ensures

-- the word was virgin, and is its first thread's own now
virgin : (g : Over) (c : After-set g) → states (seen c.self.inside) c.args.word ≡ known.Virgin
virgin g c =
    let here = found_word c.self.inside.pages.entries c.args.word c.page-number.result c.place_of-place.result _ c.get-shadow.result c.page-number.ensures c.place_of-place.ensures
    (entry_found c.self.inside.pages c.in_ok-index.index c.page-number.result c.index.result.now c.in_ok-index.ensures.unique c.in_ok-index.ensures.key c.index.ensures) c.get-shadow.ensures in
    sym (state_found (seen c.self.inside) c.args.word c.get-shadow.result here) ∙ ap (state_in c.self.inside.known) (c.if-eq.ensures.same.0 refl ∙ c.virgin.ensures)

written : (g : Over) (c : After-set g) (w : ℕ) → numbered_state (with_value_at c.self.inside.pages c.in_ok-index.index c.set.new.self).entries w ≡ cond (c.args.word == w) c.exclusive.result (numbered_state c.self.inside.pages.entries w)
written g c =
    written_page c.self.inside.pages.entries (with_value_at c.self.inside.pages c.in_ok-index.index c.set.new.self).entries c.args.word c.page-number.result c.place_of-place.result c.index_mut.result.now c.set.new.self c.exclusive.result
    c.page-number.ensures c.place_of-place.ensures (entry_found c.self.inside.pages c.in_ok-index.index c.page-number.result c.index_mut.result.now c.in_ok-index.ensures.unique c.in_ok-index.ensures.key c.index_mut.ensures.value)
    (entry_put c.self.inside.pages c.in_ok-index.index c.page-number.result c.index_mut.result.now c.in_ok-index.ensures.unique c.in_ok-index.ensures.key c.index_mut.ensures.value c.set.new.self) c.set.ensures

pub is_settled-requires : goal.is_settled-requires
is_settled-requires g c = subst (λ s. IsNumbered c.self.inside.known s) (sym (found g (goal.at.is_settled-requires g c).After-get-shadow)) (c.self.invariant c.args.word)

pub invariant_of-self : goal.invariant_of-self
invariant_of-self g c =
    let at = (goal.at.invariant_of-self g c).After-set in
    let is = subst (λ s. IsNumbered c.self.inside.known s) (sym c.exclusive.ensures) tt in
    all_numbered (seen c.self.inside) (record { pages = (with_value_at c.self.inside.pages c.in_ok-index.index c.set.new.self).entries; sets = c.self.inside.known }) _ c.exclusive.result (keeps_all c.self.inside.known)
    c.self.invariant is (written g at)

pub returns-then-eq-clause-taken : goal.returns-then-eq-clause-taken
returns-then-eq-clause-taken g c = λ yes.
    let at = (goal.at.returns-then-eq-clause-taken g c).After-set in
    let after : Shadows = record { pages = (with_value_at c.self.inside.pages c.in_ok-index.index c.set.new.self).entries; sets = c.self.inside.known } in
    let advances = ap (state_in c.self.inside.known) c.exclusive.ensures ∙ ap (λ s. advanced s c.args.thread c.args.kind c.args.locks.now) (sym (virgin g at)) in
    subst (λ (v : Shadows). (w : ℕ) → states after w ≡ moved (states v w) w (Counted c.args.thread c.args.kind c.args.word c.args.locks.now)) c.self.view_is
    (states_put (seen c.self.inside) after c.args.word c.exclusive.result (keeps_all c.self.inside.known) c.self.invariant (written g at) c.args.thread c.args.kind c.args.locks.now advances)

pub returns-then-eq-clause-quiet : goal.returns-then-eq-clause-quiet
returns-then-eq-clause-quiet g c = λ yes.
    let at = (goal.at.returns-then-eq-clause-quiet g c).After-set in
    subst (λ (v : Shadows). reports (states v c.args.word) (advanced (states v c.args.word) c.args.thread c.args.kind c.args.locks.now) ≡ false) c.self.view_is
    (ap (λ s. reports s (advanced s c.args.thread c.args.kind c.args.locks.now)) (virgin g at))

pub returns-then-eq-clause-first : goal.returns-then-eq-clause-first
returns-then-eq-clause-first g c = λ yes.
    let at = (goal.at.returns-then-eq-clause-first g c).After-set in
    subst (λ (v : Shadows). states v c.args.word ≡ known.Virgin) c.self.view_is (virgin g at)

pub returns-clause-taken : goal.returns-clause-taken
returns-clause-taken g c = λ yes.
    let settled : IsTrue c.is_settled.result = search rules in
    let here = found g (goal.at.returns-clause-taken g c).After-get-shadow in
    let stays = subst (λ (s : WordState). advanced s c.args.thread c.args.kind c.args.locks.now ≡ s) (state_found (seen c.self.inside) c.args.word c.get-shadow.result here) (c.is_settled.ensures settled) in
    subst (λ (v : Shadows). (w : ℕ) → states v w ≡ moved (states v w) w (Counted c.args.thread c.args.kind c.args.word c.args.locks.now)) c.self.view_is
    (λ w. sym (all_stay (seen c.self.inside) c.args.word c.args.thread c.args.kind c.args.locks.now stays w))

pub returns-clause-quiet : goal.returns-clause-quiet
returns-clause-quiet g c = λ yes.
    let settled : IsTrue c.is_settled.result = search rules in
    let here = found g (goal.at.returns-clause-quiet g c).After-get-shadow in
    let stays = subst (λ (s : WordState). advanced s c.args.thread c.args.kind c.args.locks.now ≡ s) (state_found (seen c.self.inside) c.args.word c.get-shadow.result here) (c.is_settled.ensures settled) in
    subst (λ (v : Shadows). reports (states v c.args.word) (advanced (states v c.args.word) c.args.thread c.args.kind c.args.locks.now) ≡ false) c.self.view_is
    (stays_quiet (states (seen c.self.inside) c.args.word) _ stays)

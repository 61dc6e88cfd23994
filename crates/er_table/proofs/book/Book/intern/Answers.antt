use Rattle.std.proofs.Common.{◌∙◌, ℕ, List, ap, sym, subst}
use Rattle.std.proofs.lemmas.Result.{IfOk-equal}
use Rattle.indexmap.proofs.CallerLemmas.{keys-with_value_at}
use Rattle.er_table.specs.Sets.{Noted, IsNoted}
use Rattle.er_table.proofs.SetsLemmas.{with_set-new, with_set-present, absent_from_look_up, present_from_look_up}
use Rattle.er_table.proofs.book.Book.intern.Goals as goal

pub add-requires : goal.add-requires
add-requires g c = absent_from_look_up c.self.inside.places _ _ (ap (λ (b : Noted). b.sets) c.self.view_is) (sym c.in_default.ensures.found)

pub returns-in_default-clause-ok : goal.returns-in_default-clause-ok
returns-in_default-clause-ok g c =
    let absent = absent_from_look_up c.self.inside.places _ _ (ap (λ (b : Noted). b.sets) c.self.view_is) (sym c.in_default.ensures.found) in
    IfOk-equal _ _ _ _ c.add.ensures.ok (sym (with_set-new _ _ absent))

pub returns-in_default-clause-full_only_if_new : goal.returns-in_default-clause-full_only_if_new
returns-in_default-clause-full_only_if_new g c = λ full. absent_from_look_up c.self.inside.places _ _ (ap (λ (b : Noted). b.sets) c.self.view_is) (sym c.in_default.ensures.found)

pub returns-in-Some-at-clause-ok : goal.returns-in-Some-at-clause-ok
returns-in-Some-at-clause-ok g c = sym (with_set-present _ _ (present_from_look_up c.self.inside.places _ _ (ap (λ (b : Noted). b.sets) c.self.view_is) (sym c.in-Some.ensures.found)))

pub returns-in-Some-at-clause-full : goal.returns-in-Some-at-clause-full
returns-in-Some-at-clause-full g c = λ at_limit absent. absurd (absent (present_from_look_up c.self.inside.places _ _ (ap (λ (b : Noted). b.sets) c.self.view_is) (sym c.in-Some.ensures.found)))

pub returns-in_default-push-clause-full : goal.returns-in_default-push-clause-full
returns-in_default-push-clause-full g c = λ at_limit absent. absurd (absent (present_from_look_up c.self.inside.places _ _ (ap (λ (b : Noted). b.sets) c.self.view_is) (sym c.in-Some.ensures.found)))

pub invariant_of-self : goal.invariant_of-self
invariant_of-self g c =
    let P : List (List ℕ) → Type 0 = λ sets. IsNoted record { sets = sets; limit = c.self.inside.max_sets } in
    subst P (sym (keys-with_value_at c.self.inside.places c.in-Some.index c.place.result)) c.self.invariant

pub returns-clause-ok : goal.returns-clause-ok
returns-clause-ok g c =
    keys-with_value_at c.self.inside.places c.in-Some.index c.place.result
    ∙ ap (λ (b : Noted). b.sets) c.self.view_is
    ∙ sym (with_set-present _ _ (present_from_look_up c.self.inside.places _ _ (ap (λ (b : Noted). b.sets) c.self.view_is) (sym c.in-Some.ensures.found)))

pub returns-clause-full : goal.returns-clause-full
returns-clause-full g c = λ at_limit absent. absurd (absent (present_from_look_up c.self.inside.places _ _ (ap (λ (b : Noted). b.sets) c.self.view_is) (sym c.in-Some.ensures.found)))

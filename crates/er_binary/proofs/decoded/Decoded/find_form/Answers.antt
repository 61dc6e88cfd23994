-- The first bytes that are there, and what is still to be read, mean the same.
use Rattle.std.proofs.Common.{◌≡◌, ◌<◌, ◌≤◌, ℕ, not, List, [], length, take, refl, sym, ap, ◌∙◌, arith, rules}
use Rattle.std.proofs.lemmas.List.{length-take-le}
use Rattle.std.specs.Str.{bytes_eq}
use Rattle.er_binary.specs.Decoded.{to_come, to_touch}
use Rattle.er_binary.specs.Meaning.{meant, touches}
use Rattle.er_binary.proofs.DecodedLaws.{binary_is, meant_binary, meant_text, not_false, not_true, text_is, unknown_is, binary_touch, text_touch, touches_binary, touches_text, unknown_noting, unknown_touch}
use Rattle.er_binary.proofs.DecoderLaws.{at_end, keeps_by}
use Rattle.er_binary.proofs.decoded.Decoded.find_form.Goals as goal
use Rattle.er_binary.proofs.NotesLaws.{stays_by}

pub returns-in_err-fill-clause-same : goal.returns-in_err-fill-clause-same
returns-in_err-fill-clause-same g c =
    let d = c.args.self.now in
    keeps_by (to_come d) (to_come _) (take d.held d.first) (take c.fill.new.held c.fill.new.bytes) _ _ c.fill.ensures.same
    (λ before after is same. unknown_is _ after c.requires ∙ ap meant same ∙ sym (unknown_is d before c.requires))

pub returns-then-ne-clause-same : goal.returns-then-ne-clause-same
returns-then-ne-clause-same g c =
    let d = c.args.self.now in
    let b = take c.fill.new.held c.fill.new.bytes in
    let size : length c.fill.new.bytes ≡ 8 = search rules in
    let front : length b ≡ c.fill.new.held = length-take-le c.fill.new.held c.fill.new.bytes c.fill.ensures.within in
    let fits : length b ≤ 8 = omega (arith, front, size, c.fill.ensures.within) in
    keeps_by (to_come d) (to_come _) (take d.held d.first) b _ _ c.fill.ensures.same
    (λ before after is same.
    let end : length b < 8 → after ≡ [] = λ less. at_end _ after is (c.in_ok-fill.ensures.end (omega (arith, less, front, size))) in
    text_is _ after refl ∙ sym (unknown_is d before c.requires ∙ ap meant (sym same) ∙ meant_text b after fits end (not_true _ (ap (λ (t : List ℕ). not (bytes_eq b t)) (sym c.as_slice.ensures) ∙ sym c.ne.ensures ∙ c.if-ne.true))))

pub returns-in_err-new-clause-same : goal.returns-in_err-new-clause-same
returns-in_err-new-clause-same g c =
    let d = c.args.self.now in
    keeps_by (to_come d) (to_come _) (take d.held d.first) (take c.fill.new.held c.fill.new.bytes) _ _ c.fill.ensures.same
    (λ before after is same. unknown_is _ after c.requires ∙ ap meant same ∙ sym (unknown_is d before c.requires))

pub returns-clause-same : goal.returns-clause-same
returns-clause-same g c =
    let d = c.args.self.now in
    let b = take c.fill.new.held c.fill.new.bytes in
    keeps_by (to_come d) (to_come _) (take d.held d.first) b _ _ c.fill.ensures.same
    (λ before after is same. binary_is _ _ after refl ∙ c.in_ok-new.ensures.text after
    ∙ sym (unknown_is d before c.requires ∙ ap meant (sym same) ∙ meant_binary b after (not_false _ (ap (λ (t : List ℕ). not (bytes_eq b t)) (sym c.as_slice.ensures) ∙ sym c.ne.ensures ∙ c.if-ne.false))))

pub returns-in_err-fill-clause-touches : goal.returns-in_err-fill-clause-touches
returns-in_err-fill-clause-touches g c = λ on.
    let d = c.args.self.now in
    stays_by (to_touch d) (to_touch _) (take d.held d.first) (take c.fill.new.held c.fill.new.bytes) _ _ c.fill.ensures.same
    (λ before after is same. unknown_touch _ after c.requires ∙ ap touches same ∙ sym (unknown_touch d before c.requires))

pub returns-then-ne-clause-noting : goal.returns-then-ne-clause-noting
returns-then-ne-clause-noting g c = sym (unknown_noting c.args.self.now c.requires)

pub returns-then-ne-clause-touches : goal.returns-then-ne-clause-touches
returns-then-ne-clause-touches g c = λ on.
    let d = c.args.self.now in
    let b = take c.fill.new.held c.fill.new.bytes in
    let size : length c.fill.new.bytes ≡ 8 = search rules in
    let front : length b ≡ c.fill.new.held = length-take-le c.fill.new.held c.fill.new.bytes c.fill.ensures.within in
    let fits : length b ≤ 8 = omega (arith, front, size, c.fill.ensures.within) in
    stays_by (to_touch d) (to_touch _) (take d.held d.first) b _ _ c.fill.ensures.same
    (λ before after is same.
    let end : length b < 8 → after ≡ [] = λ less. at_end _ after is (c.in_ok-fill.ensures.end (omega (arith, less, front, size))) in
    text_touch _ after refl ∙ sym (unknown_touch d before c.requires ∙ ap touches (sym same) ∙ touches_text b after fits end (not_true _ (ap (λ (t : List ℕ). not (bytes_eq b t)) (sym c.as_slice.ensures) ∙ sym c.ne.ensures ∙ c.if-ne.true))))

pub returns-in_err-new-clause-touches : goal.returns-in_err-new-clause-touches
returns-in_err-new-clause-touches g c = λ on.
    let d = c.args.self.now in
    stays_by (to_touch d) (to_touch _) (take d.held d.first) (take c.fill.new.held c.fill.new.bytes) _ _ c.fill.ensures.same
    (λ before after is same. unknown_touch _ after c.requires ∙ ap touches same ∙ sym (unknown_touch d before c.requires))

pub returns-clause-noting : goal.returns-clause-noting
returns-clause-noting g c = c.in_ok-new.ensures.on ∙ sym (unknown_noting c.args.self.now c.requires)

pub returns-clause-touches : goal.returns-clause-touches
returns-clause-touches g c = λ on.
    let d = c.args.self.now in
    let b = take c.fill.new.held c.fill.new.bytes in
    stays_by (to_touch d) (to_touch _) (take d.held d.first) b _ _ c.fill.ensures.same
    (λ before after is same. binary_touch _ _ after refl ∙ c.in_ok-new.ensures.touches after
    ∙ sym (unknown_touch d before c.requires ∙ ap touches (sym same) ∙ touches_binary b after (not_false _ (ap (λ (t : List ℕ). not (bytes_eq b t)) (sym c.as_slice.ensures) ∙ sym c.ne.ensures ∙ c.if-ne.false))))

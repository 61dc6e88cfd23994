use Rattle.std.proofs.Common.{◌≡◌, ◌∙◌, ◌++◌, ◌∷◌, [], Bool, List, cond, map, refl, sym, ap, subst}
use Rattle.std.proofs.lemmas.List.{append-nil, map-append}
use Rattle.er_explain.specs.WordBooks.{book_in}
use Rattle.er_model.specs.Explanations.{word_in}
use Rattle.er_model.specs.Holdings.{holdings_at}
use Rattle.er_report.specs.Kept.{Follows, Kept, word_reasons}
use Rattle.er_report.specs.declared.report.Because.{Because}
use Rattle.er_report.proofs.KeptLemmas.{follows-next}
use Rattle.er_report.proofs.explainer.Explainer.follow.Goals as goal

pub returns-in_ok-push : goal.returns-in_ok-push
returns-in_ok-push c = λ r rules k so_far here number covers printed.
    let told : List (List Because) = map (λ reasons. reasons.value.explained.items) c.self.inside.told.items in
    let before : Kept = record { books = c.self.inside.books; told = told } in
    let found : List Because = word_reasons (book_in c.follow.new.self) (word_in c.args.step.now.event) in
    let tells : map (λ reasons. reasons.value.explained.items) c.push.new.self.items ≡ told ++ cond c.args.printed (found ∷ []) [] =
    ap (map (λ reasons. reasons.value.explained.items)) c.in_ok-push.ensures.items
    ∙ map-append (λ reasons. reasons.value.explained.items) c.self.inside.told.items (c.in_ok-reasons.reasons ∷ [])
    ∙ ap (λ (reasons : List Because). told ++ reasons ∷ []) (ap (λ details. details.explained.items) c.in_ok-reasons.ensures.ok ∙ c.in_ok-explained.ensures)
    ∙ ap (λ (b : Bool). told ++ cond b (found ∷ []) []) (sym c.if-printed.true) in
    follows-next before _ r rules k c.args.line c.args.step.now c.args.printed c.follow.new.self (subst (λ (kept : Kept). Follows kept r rules k) (sym c.self.view_is) so_far) here number printed
    (c.in_ok-follow.ensures (holdings_at r.steps c.args.step.now.thread k) covers) refl tells

pub returns-else-printed : goal.returns-else-printed
returns-else-printed c = λ r rules k so_far here number covers printed.
    let told : List (List Because) = map (λ reasons. reasons.value.explained.items) c.self.inside.told.items in
    let before : Kept = record { books = c.self.inside.books; told = told } in
    let found : List Because = word_reasons (book_in c.follow.new.self) (word_in c.args.step.now.event) in
    follows-next before _ r rules k c.args.line c.args.step.now c.args.printed c.follow.new.self (subst (λ (kept : Kept). Follows kept r rules k) (sym c.self.view_is) so_far) here number printed
    (c.in_ok-follow.ensures (holdings_at r.steps c.args.step.now.thread k) covers) refl (sym (append-nil told) ∙ ap (λ (b : Bool). told ++ cond b (found ∷ []) []) (sym c.if-printed.false))

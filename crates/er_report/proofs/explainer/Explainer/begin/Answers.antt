use Rattle.std.proofs.Common.{List, map, refl, sym, subst}
use Rattle.er_model.specs.Holdings.{holdings_at}
use Rattle.er_report.specs.Kept.{Follows, Kept}
use Rattle.er_report.specs.declared.report.Because.{Because}
use Rattle.er_report.proofs.KeptLemmas.{begins-next}
use Rattle.er_report.proofs.explainer.Explainer.begin.Goals as goal

pub returns : goal.returns
returns c = λ r rules k so_far here number begins unprinted.
    let told : List (List Because) = map (λ reasons. reasons.value.explained.items) c.self.inside.told.items in
    let before : Kept = record { books = c.self.inside.books; told = told } in
    begins-next before _ r rules k c.args.line c.args.step.now c.begin.new.self (subst (λ (kept : Kept). Follows kept r rules k) (sym c.self.view_is) so_far) here number unprinted begins
    (c.in_ok-begin.ensures (holdings_at r.steps c.args.step.now.thread k)) refl refl

-- The inspector's damage is the text's.
use Rattle.std.proofs.Common.{None, Option, sym, subst, ◌∙◌}
use Rattle.er_batch.specs.Analysts.{IsAnswered}
use Rattle.er_damage.specs.Standing.{Inspected}
use Rattle.er_run.specs.Inner.Inspected.{IsInspected}
use Rattle.er_run.proofs.SeenLemmas.{some-found, none-found}
use Rattle.er_run.proofs.inspecting.Inspection.damage.Goals as goal

pub returns-then-is_any-clause-found : goal.returns-then-is_any-clause-found
returns-then-is_any-clause-found c = λ strict told limit used all ends.
    let P : Option Inspected → Type 0 = λ o. IsAnswered (IsInspected o strict) None told limit used in
    some-found told limit strict used c.in-Some.inspector c.args.ending c.damage-damage.result (subst P c.in-Some.is all) ends c.damage-damage.ensures.told
    (sym c.is_any.ensures ∙ c.if-is_any.true)

pub returns-else-is_any-clause-found : goal.returns-else-is_any-clause-found
returns-else-is_any-clause-found c = λ strict told limit used all ends.
    let P : Option Inspected → Type 0 = λ o. IsAnswered (IsInspected o strict) None told limit used in
    none-found told limit strict used c.in-Some.inspector c.args.ending c.damage-damage.result (subst P c.in-Some.is all) ends c.damage-damage.ensures.told
    (sym c.is_any.ensures ∙ c.if-is_any.false)

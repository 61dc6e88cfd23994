use Rattle.std.proofs.Common.{◌≡◌, ◌∙◌, ℕ, [], List, Some, slice_get, subst}
use Rattle.er_trace.specs.Inner.Recent.{AreDistinct}
use Rattle.er_trace.proofs.FirstLemmas.{ends_first}
use Rattle.er_trace.proofs.RenumberingLemmas.{names_on}
use Rattle.er_trace.proofs.names.CachedNames.add_rest.Goals as goal

pub loop-at-preserved : goal.loop-at-preserved
loop-at-preserved c = λ first.
    let others = c.args.others.now in
    let name = c.name.result.now in
    names_on [] others c.loop-at.self c.number.new.self c.loop-at.at name
    (subst (λ (names : List (List ℕ)). slice_get names c.loop-at.at ≡ Some name) c.others.view_is c.name.ensures)
    (c.loop-at.invariant first) c.in-Ok.ensures.ok

pub returns-in_default : goal.returns-in_default
returns-in_default c = λ first.
    ends_first c.args.others.now c.number.new.self c.loop-at.at (subst AreDistinct c.others.view_is c.others.invariant.2) (c.in_default.ensures.err ∙ c.loop-at.invariant first)

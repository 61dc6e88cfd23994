use Rattle.std.proofs.Common.{◌≡◌, ℕ, List, Some, slice_get, subst, sym}
use Rattle.er_trace.proofs.NamesLemmas.{with_known}
use Rattle.er_trace.proofs.RenumberingLemmas.{names_on}
use Rattle.er_trace.proofs.names.CachedNames.has_few.Goals as goal

pub loop-at-preserved : goal.loop-at-preserved
loop-at-preserved c =
    names_on c.args.self.now c.args.others.now c.args.self.now c.args.self.now c.loop-at.at c.name.result.now
    (subst (λ (names : List (List ℕ)). slice_get names c.loop-at.at ≡ Some c.name.result.now) c.others.view_is c.name.ensures) c.loop-at.invariant
    (sym (with_known c.args.self.now c.name.result.now c.in-Some.ensures.some.1))

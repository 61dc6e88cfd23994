use Rattle.std.proofs.Common.{◌≡◌, ℕ, [], List, Some, slice_get, subst}
use Rattle.std.proofs.lemmas.Option.{slice_get_within, get_or_from_slice_get}
use Rattle.er_trace.specs.Inner.Recent.{Knows}
use Rattle.er_trace.proofs.FirstLemmas.{same_on}
use Rattle.er_trace.proofs.names.CachedNames.are_first_of.Goals as goal

pub loop-at-preserved : goal.loop-at-preserved
loop-at-preserved c =
    let name = c.name.result.now in
    let here : slice_get c.args.self.now c.loop-at.at ≡ Some name =
    subst (λ (names : List (List ℕ)). slice_get names c.loop-at.at ≡ Some name) c.self.view_is c.name.ensures in
    let knows : Knows c.others.inside.list c.as_bytes.result.now c.loop-at.at = c.is_at.ensures c.if-not-is_at.false in
    same_on c.args.others.now c.args.self.now c.loop-at.at name (slice_get_within c.args.self.now c.loop-at.at name here)
    (get_or_from_slice_get c.args.self.now c.loop-at.at name [] here)
    (subst (λ (names : List (List ℕ)). Knows names name c.loop-at.at) c.others.view_is
    (subst (λ (bytes : List ℕ). Knows c.others.inside.list bytes c.loop-at.at) c.as_bytes.ensures.value knows))
    c.loop-at.invariant

use Rattle.std.proofs.Common.{◌≡◌, ◌+◌, suc, map, refl, ap, arith, ◌∙◌, add-one}
use Rattle.std.proofs.lemmas.Option.{slice_get_within}
use Rattle.er_model.specs.Explanations.{Explanation}
use Rattle.er_check.specs.Access.{access_mark}
use Rattle.er_check.specs.Claims.{FitsPair}
use Rattle.er_check.proofs.PairLemmas.{seen, pair-here, pair-count, all-from, all-at, each-next}
use Rattle.er_check.proofs.checking.pairs_fit.Goals as goal

pub returns-then-not-is_least : goal.returns-then-not-is_least
returns-then-not-is_least c =
    let pairs = c.args.explanation.now.uncovered in
    let same : map seen c.deref-pair-items.result.now ≡ pairs = rw c.deref-pair-items.ensures.value (ap (λ (e : Explanation). e.uncovered) c.explanation.view_is) in
    let join : c.explanation.inside.join + 1 ≡ suc c.args.explanation.now.join = add-one c.explanation.inside.join ∙ ap (λ (e : Explanation). suc e.join) c.explanation.view_is in
    let here = pair-here c.deref-pair-items.result.now pairs c.loop-pair.pair-index c.pair-item.result same c.loop-pair-test.true c.pair-item.is in
    let a = c.args.access.now in (
      λ yes. cc,
      λ all. (let fits = all-at (FitsPair (access_mark a) a.word c.args.explanation.now.join a.at) pairs all c.loop-pair.pair-index (seen c.pair-item.result) here in
          let is = c.is_least.ensures.1 (rw (join, c.counts_without-uncovered.ensures) fits) in cc),
    )

pub loop-pair-preserved : goal.loop-pair-preserved
loop-pair-preserved c =
    let pairs = c.args.explanation.now.uncovered in
    let same : map seen c.deref-pair-items.result.now ≡ pairs = rw c.deref-pair-items.ensures.value (ap (λ (e : Explanation). e.uncovered) c.explanation.view_is) in
    let join : c.explanation.inside.join + 1 ≡ suc c.args.explanation.now.join = add-one c.explanation.inside.join ∙ ap (λ (e : Explanation). suc e.join) c.explanation.view_is in
    let here = pair-here c.deref-pair-items.result.now pairs c.loop-pair.pair-index c.pair-item.result same c.loop-pair-test.true c.pair-item.is in
    let a = c.args.access.now in
    each-next (FitsPair (access_mark a) a.word c.args.explanation.now.join a.at) pairs c.loop-pair.pair-index (seen c.pair-item.result) here
    (rw (join, c.counts_without-uncovered.ensures) at (c.is_least.ensures.0 c.if-not-is_least.false)) c.loop-pair.invariant

pub returns : goal.returns
returns c =
    let pairs = c.args.explanation.now.uncovered in
    let same : map seen c.deref-pair-items.result.now ≡ pairs = rw c.deref-pair-items.ensures.value (ap (λ (e : Explanation). e.uncovered) c.explanation.view_is) in
    let count = pair-count c.deref-pair-items.result.now pairs same in
    let a = c.args.access.now in (
      λ yes. all-from (FitsPair (access_mark a) a.word c.args.explanation.now.join a.at) pairs (λ j pair is. c.loop-pair.invariant j pair (omega (arith, count, c.loop-pair-test.false, slice_get_within pairs j pair is)) is),
      λ all. refl,
    )

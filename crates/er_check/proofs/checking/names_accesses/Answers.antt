use Rattle.std.proofs.Common.{◌≡◌, ◌+◌, suc, map, refl, ap, arith, ◌∙◌, add-one}
use Rattle.std.proofs.lemmas.Option.{slice_get_within}
use Rattle.er_model.specs.Explanations.{Explanation}
use Rattle.er_check.specs.Claims.{IsAccess}
use Rattle.er_check.proofs.PairLemmas.{seen, pair-here, pair-count, all-from, all-at, each-next}
use Rattle.er_check.proofs.checking.names_accesses.Goals as goal

pub returns-then-not-is_access-4 : goal.returns-then-not-is_access-4
returns-then-not-is_access-4 c =
    let same : map seen c.deref-pair-items.result.now ≡ c.args.explanation.now.uncovered = rw c.deref-pair-items.ensures.value (ap (λ (e : Explanation). e.uncovered) c.explanation.view_is) in
    let join : c.explanation.inside.join + 1 ≡ suc c.args.explanation.now.join = add-one c.explanation.inside.join ∙ ap (λ (e : Explanation). suc e.join) c.explanation.view_is in
    let here = pair-here c.deref-pair-items.result.now c.args.explanation.now.uncovered c.loop-pair.pair-index c.pair-item.result same c.loop-pair-test.true c.pair-item.is in (
      λ t. cc,
      λ names. (let is = c.is_access-in-loop-pair.ensures.1 (rw join (all-at (λ pair. IsAccess c.args.steps.now c.args.word (suc c.args.explanation.now.join) c.args.k pair.1) c.args.explanation.now.uncovered names.uncovers c.loop-pair.pair-index (seen c.pair-item.result) here)) in
          let not = c.if-not-is_access-4.true in cc),
    )

pub loop-pair-preserved : goal.loop-pair-preserved
loop-pair-preserved c =
    let same : map seen c.deref-pair-items.result.now ≡ c.args.explanation.now.uncovered = rw c.deref-pair-items.ensures.value (ap (λ (e : Explanation). e.uncovered) c.explanation.view_is) in
    let join : c.explanation.inside.join + 1 ≡ suc c.args.explanation.now.join = add-one c.explanation.inside.join ∙ ap (λ (e : Explanation). suc e.join) c.explanation.view_is in
    let here = pair-here c.deref-pair-items.result.now c.args.explanation.now.uncovered c.loop-pair.pair-index c.pair-item.result same c.loop-pair-test.true c.pair-item.is in
    each-next (λ pair. IsAccess c.args.steps.now c.args.word (suc c.args.explanation.now.join) c.args.k pair.1) c.args.explanation.now.uncovered c.loop-pair.pair-index (seen c.pair-item.result) here
    (rw join at (c.is_access-in-loop-pair.ensures.0 c.if-not-is_access-4.false)) c.loop-pair.invariant

pub returns : goal.returns
returns c =
    let same : map seen c.deref-pair-items.result.now ≡ c.args.explanation.now.uncovered = rw c.deref-pair-items.ensures.value (ap (λ (e : Explanation). e.uncovered) c.explanation.view_is) in
    let count = pair-count c.deref-pair-items.result.now c.args.explanation.now.uncovered same in
    let first = ap (λ (e : Explanation). e.first) c.explanation.view_is in
    let join = ap (λ (e : Explanation). e.join) c.explanation.view_is in
    let write = ap (λ (e : Explanation). e.write) c.explanation.view_is in (
      λ t. record {
        first = rw first at (c.is_access.ensures.0 c.if-not-is_access.false);
        join = rw join at (c.is_access-else-not-is_access.ensures.0 c.if-not-is_access-2.false);
        write = rw (join, write) at (c.is_access-else-not-is_access-2.ensures.0 c.if-not-is_access-3.false);
        uncovers = all-from (λ pair. IsAccess c.args.steps.now c.args.word (suc c.args.explanation.now.join) c.args.k pair.1) c.args.explanation.now.uncovered
            (λ j pair is. c.loop-pair.invariant j pair (omega (arith, count, c.loop-pair-test.false, slice_get_within c.args.explanation.now.uncovered j pair is)) is);
      },
      λ all. refl,
    )

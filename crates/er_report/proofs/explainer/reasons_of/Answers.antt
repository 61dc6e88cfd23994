-- The three first, and behind them those of all locks.
use Rattle.std.proofs.Common.{◌++◌, List, flat_map, ◌∙◌, ap}
use Rattle.std.proofs.lemmas.List.{take_all}
use Rattle.er_explain.specs.declared.book.Pair.{Pair}
use Rattle.er_report.specs.Kept.{LineAccess, told_found}
use Rattle.er_report.specs.declared.report.Label.TheVariants as label
use Rattle.er_report.proofs.KeptLemmas.{all-told}
use Rattle.er_report.proofs.explainer.reasons_of.Goals as goal

pub returns : goal.returns
returns c =
    let pairs : List (Pair LineAccess) = c.pairs-pair-items.result.now in
    all-told c.args.joint.now c.first.result c.join.result c.write.result pairs _ _ _ _ c.loop-pair.reasons.items
    c.first.ensures c.join.ensures c.write.ensures c.pairs-pair-items.ensures c.in_ok-reasons.ensures.items
    c.in_ok-put_found.ensures c.in_ok-put_found-2.ensures c.in_ok-put_found-3.ensures
    (c.loop-pair.invariant
    ∙ ap (λ (some : List (Pair LineAccess)). c.put_found-3.new.reasons.items ++ flat_map (λ (pair : Pair LineAccess). told_found (label.Uncovered pair.lock) pair.at) some)
    (take_all c.loop-pair.pair-index pairs c.loop-pair-test.false))

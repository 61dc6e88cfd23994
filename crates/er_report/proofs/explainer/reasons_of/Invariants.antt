-- Those that were there before the loop, and those of the locks so far.
use Rattle.std.proofs.Common.{◌≡◌, ◌++◌, take, flat_map}
use Rattle.er_report.specs.Kept.{told_found}
use Rattle.er_report.specs.declared.report.Label.TheVariants as label
use Rattle.er_report.proofs.explainer.reasons_of.Given as goal

abbrev pub invariant-loop-pair : goal.invariant-loop-pair
invariant-loop-pair l =
    l.reasons.items ≡ l.initial.reasons.items ++ flat_map (λ pair. told_found (label.Uncovered pair.lock) pair.at) (take l.pair-index l.pair-items)

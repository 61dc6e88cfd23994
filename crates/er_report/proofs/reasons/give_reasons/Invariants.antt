use Rattle.std.proofs.Common.{◌≡◌, ◌++◌, take, drop, map}
use Rattle.std.specs.Vec.Iter.{into_iter_items}
use Rattle.er_report.specs.Inner.Explained.{with_told}
use Rattle.er_report.specs.Lines.{line_view}
use Rattle.er_report.proofs.reasons.give_reasons.Given as goal

-- the first lines have their reasons, and the others get those that are to come
abbrev pub invariant-loop-i : goal.invariant-loop-i
invariant-loop-i l =
    with_told (map (λ reasons. reasons.value.explained.items) (into_iter_items l.initial.to_come)) (map line_view l.initial.lines)
    ≡ take l.i (map line_view l.lines) ++ with_told (map (λ reasons. reasons.value.explained.items) (into_iter_items l.to_come)) (drop l.i (map line_view l.lines))

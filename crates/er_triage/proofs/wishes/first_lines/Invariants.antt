-- The lines that were kept, and those that will be, are the whole.
use Rattle.std.proofs.Common.{◌≡◌, ◌++◌}
use Rattle.std.specs.Vec.Iter.{into_iter_items}
use Rattle.er_triage.specs.First.{first_races}
use Rattle.er_triage.proofs.wishes.first_lines.Given as goal

abbrev pub invariant-loop-line : goal.invariant-loop-line
invariant-loop-line l = l.kept.items ++ first_races l.left (into_iter_items l.line-iterator) ≡ first_races l.fn.most l.fn.lines.items

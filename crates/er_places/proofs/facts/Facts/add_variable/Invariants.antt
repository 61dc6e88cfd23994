-- Nothing changes of the lines.
use Rattle.er_places.specs.Inner.Noting.{SameLines}
use Rattle.er_places.proofs.facts.Facts.add_variable.Given as goal

abbrev pub invariant-loop-at : goal.invariant-loop-at
invariant-loop-at l = record { same : SameLines l.fn.self l.self }

use Rattle.std.proofs.Common.{take}
use Rattle.er_sites.specs.Inner.Rows.{AreExamples}
use Rattle.er_sites.proofs.table.find_examples.Given as goal

abbrev pub invariant-loop-place : goal.invariant-loop-place
invariant-loop-place l = AreExamples (take l.place l.lines) l.examples.items

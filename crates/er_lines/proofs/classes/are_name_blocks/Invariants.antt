-- The bytes so far are bytes of names.
use Rattle.std.proofs.Common.{◌-◌}
use Rattle.er_lines.specs.Inner.Blocks.{AreNameBytes}
use Rattle.er_lines.proofs.classes.are_name_blocks.Given as goal

abbrev pub invariant-loop-at : goal.invariant-loop-at
invariant-loop-at l = AreNameBytes l.bytes 0 l.at

abbrev pub decreases-loop-at : goal.decreases-loop-at
decreases-loop-at l = l.last - l.at

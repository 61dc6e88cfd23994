-- All of the pieces so far was read.
use Rattle.std.proofs.Common.{All, take}
use Rattle.er_reading.specs.Inner.Adding.{IsWhole}
use Rattle.er_reading.proofs.adding.whole_count.Given as goal

abbrev pub invariant-loop-at : goal.invariant-loop-at
invariant-loop-at l = All IsWhole (take l.at l.pieces)

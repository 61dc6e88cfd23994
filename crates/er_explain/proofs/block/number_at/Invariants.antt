-- The places so far are others.
use Rattle.std.proofs.Common.{◌≡◌, ◌≤◌, ◌+◌, ◌-◌, ◌%◌}
use Rattle.er_explain.specs.Inner.Places.{number_at}
use Rattle.er_explain.proofs.block.number_at.Given as goal

abbrev pub invariant-loop-start : goal.invariant-loop-start
invariant-loop-start l = record {
  none : l.start ≤ number_at l.places l.place;
  whole : l.start % 16 ≡ 0;
}

abbrev pub decreases-loop-start : goal.decreases-loop-start
decreases-loop-start l = l.count + 16 - l.start

use Rattle.std.proofs.Common.{◌≤◌, ◌+◌, ◌*◌}
use Rattle.er_clock.specs.Counts.{count_by}
use Rattle.er_epochs.specs.Words.{known_beside, slot_at}
use Rattle.er_epochs.proofs.Lowest.{IsNoneBelow, is_used}
use Rattle.er_epochs.proofs.block.Block.first_in_use.Given as goal

abbrev pub invariant-loop-place : goal.invariant-loop-place
invariant-loop-place g l = record {
  none : IsNoneBelow (λ i. is_used (count_by l.clock) (known_beside l.lists (l.number * 32 + i) (slot_at l.self i))) l.lo l.place;
  place : l.lo ≤ l.place;
}

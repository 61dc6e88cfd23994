use Rattle.std.proofs.Common.{◌≡◌, ◌+◌, length, take}
use Rattle.eraser_c.specs.Settlements.{all_behind, all_kept}
use Rattle.eraser_c.proofs.settlement.put_back.Given as goal

-- the handles so far lead to what was yielded
abbrev pub invariant-loop-kept : goal.invariant-loop-kept
invariant-loop-kept l = record {
  size : length l.handles ≡ length l.fn.handles;
  at : l.at ≡ length l.yielded;
  left : l.at + length l.kept-iterator.rest.items ≡ length l.fn.handles;
  back : take l.at (all_kept l.handles) ≡ all_behind (λ boxed. boxed.value) l.yielded;
}

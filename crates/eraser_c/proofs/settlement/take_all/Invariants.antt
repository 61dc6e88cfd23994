use Rattle.std.proofs.Common.{◌≡◌, ◌≤◌, length, take, drop}
use Rattle.std.specs.Prelude.{vec_capacity}
use Rattle.eraser_c.specs.Settlements.{all_behind, all_kept}
use Rattle.eraser_c.proofs.settlement.take_all.Given as goal

-- what the handles so far led to is taken, and the others are as they were
abbrev pub invariant-loop-i : goal.invariant-loop-i
invariant-loop-i l = record {
  size : length l.handles ≡ length l.fn.handles;
  room : length l.fn.handles ≤ vec_capacity l.taken;
  count : length l.taken.items ≡ l.i;
  taken : all_behind (λ boxed. boxed.value) l.taken.items ≡ take l.i (all_kept l.fn.handles);
  rest : drop l.i l.handles ≡ drop l.i l.fn.handles;
}

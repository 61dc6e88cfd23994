use Rattle.std.proofs.Common.{◌≡◌, ◌+◌, map, take, drop, length}
use Rattle.er_trace.proofs.appending.count_behind.Given as goal

-- the first lines are counted from behind so many, and the others are as they were
abbrev pub invariant-loop-at : goal.invariant-loop-at
invariant-loop-at l = record {
  len : length l.lines ≡ length l.fn.lines;
  done : take l.at l.lines ≡ map (λ line. l.before + line) (take l.at l.fn.lines);
  rest : drop l.at l.lines ≡ drop l.at l.fn.lines;
}

-- The touches of the words so far are noted, and there is room for the others.
use Rattle.std.proofs.Common.{◌≡◌, ◌≤◌, ◌+◌, ◌++◌, vec_len}
use Rattle.std.specs.Prelude.{vec_capacity}
use Rattle.er_binary.specs.Touches.{touches_below}
use Rattle.er_binary.proofs.touches.Notes.follow.Given as goal

abbrev pub invariant-loop-k : goal.invariant-loop-k
invariant-loop-k l = record {
  on : l.self.is_on ≡ l.fn.self.is_on;
  line : l.self.line ≡ l.fn.self.line;
  room : vec_len l.self.touches + 5 ≤ vec_capacity l.self.touches + l.k;
  noted : l.self.touches.items ≡ l.fn.self.touches.items ++ touches_below l.fn.self.line l.said l.k;
}

use Rattle.std.proofs.Common.{◌≡◌, ◌≤◌}
use Rattle.std.specs.Prelude.{vec_len, vec_capacity}
use Rattle.er_parallel.proofs.crew.fn.start.scope.Given as goal

abbrev pub invariant-loop : goal.invariant-loop
invariant-loop g l = record {
  count : vec_len l.handles ≡ l.counter;
  room : l.end ≤ vec_capacity l.handles;
}

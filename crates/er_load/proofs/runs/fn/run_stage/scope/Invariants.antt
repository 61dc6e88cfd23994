use Rattle.std.proofs.Common.{◌≡◌, ◌+◌, ◌≤◌}
use Rattle.std.specs.Prelude.{vec_len, vec_capacity}
use Rattle.std.specs.Vec.Iter.{into_iter_items, into_iter_len}
use Rattle.er_load.proofs.StartLemmas.{AreStarted}
use Rattle.er_load.proofs.runs.fn.run_stage.scope.Given as goal

abbrev pub invariant-loop-seat : goal.invariant-loop-seat
invariant-loop-seat g l = record {
  all : vec_len l.workers + into_iter_len l.seat-iterator ≡ into_iter_len l.initial.seat-iterator;
  room : into_iter_len l.initial.seat-iterator ≤ vec_capacity l.workers;
  started : AreStarted l.workload l.stage (into_iter_items l.initial.seat-iterator) (into_iter_items l.seat-iterator) l.workers.items;
}

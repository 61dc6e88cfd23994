use Rattle.std.proofs.Common.{◌≡◌, ◌+◌, ◌≤◌}
use Rattle.std.specs.Prelude.{vec_len, vec_capacity}
use Rattle.std.specs.Vec.Iter.{into_iter_items, into_iter_len}
use Rattle.er_load.proofs.JoinLemmas.{AreJoined}
use Rattle.er_load.proofs.runs.join_all.Given as goal

-- those that are gone have answered, in their order
abbrev pub invariant-loop-worker : goal.invariant-loop-worker
invariant-loop-worker g l = record {
  all : vec_len l.answers + into_iter_len l.worker-iterator ≡ vec_len l.fn.workers;
  room : vec_len l.fn.workers ≤ vec_capacity l.answers;
  joined : AreJoined l.fn.workers.items (into_iter_items l.worker-iterator) l.answers.items;
}

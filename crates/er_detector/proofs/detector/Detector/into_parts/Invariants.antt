use Rattle.std.proofs.Common.{◌≡◌, ◌+◌, ◌≤◌, vec_len}
use Rattle.std.specs.Prelude.{vec_capacity}
use Rattle.std.specs.Vec.Iter.{into_iter_len}
use Rattle.er_detector.proofs.detector.Detector.into_parts.Given as goal

abbrev pub invariant-loop-lock : goal.invariant-loop-lock
invariant-loop-lock l = record {
  all : vec_len l.shards + into_iter_len l.lock-iterator ≡ l.config.shards;
  room : vec_len l.shards + into_iter_len l.lock-iterator ≤ vec_capacity l.shards;
}

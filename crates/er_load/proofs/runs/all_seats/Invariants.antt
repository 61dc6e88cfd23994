use Rattle.std.proofs.Common.{◌≡◌, ◌+◌, ◌≤◌, ◌++◌, map}
use Rattle.std.specs.Prelude.{vec_len, vec_capacity, Ok}
use Rattle.std.specs.Vec.Iter.{into_iter_items, into_iter_len}
use Rattle.er_load.proofs.runs.all_seats.Given as goal

-- the answers so far are the seats
abbrev pub invariant-loop-answer : goal.invariant-loop-answer
invariant-loop-answer l = record {
  room : vec_len l.seats + into_iter_len l.answer-iterator ≤ vec_capacity l.seats;
  split : l.fn.answers.items ≡ map Ok l.seats.items ++ into_iter_items l.answer-iterator;
}

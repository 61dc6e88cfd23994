use Rattle.std.proofs.Common.{◌≡◌}
use Rattle.std.specs.Prelude.{vec_len}
use Rattle.er_load.specs.declared.workloads.Stage.TheVariants.{First}
use Rattle.er_load.specs.Inner.Progress.{AreSeatsAt, done_before}
use Rattle.er_load.proofs.runs.open_seats.Given as goal

abbrev pub invariant-loop-number : goal.invariant-loop-number
invariant-loop-number l = record {
  count : vec_len l.seats ≡ l.number;
  opened : AreSeatsAt (done_before l.fn.workload First) l.seats.items;
}

use Rattle.std.proofs.Common.{◌≡◌, ◌++◌}
use Rattle.er_load.specs.Inner.Scripts.{events_in_all}
use Rattle.er_load.specs.Workloads.{times}
use Rattle.er_load.proofs.runner.add_rounds.Given as goal

abbrev pub invariant-loop : goal.invariant-loop
invariant-loop l = events_in_all l.script.items ≡ events_in_all l.initial.script.items ++ times l.counter (events_in_all l.round)

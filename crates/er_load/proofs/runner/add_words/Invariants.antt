use Rattle.std.proofs.Common.{◌≡◌, ◌++◌}
use Rattle.er_load.specs.Inner.Scripts.{events_in_all}
use Rattle.er_load.specs.Workloads.{each_word}
use Rattle.er_load.proofs.runner.add_words.Given as goal

abbrev pub invariant-loop-at : goal.invariant-loop-at
invariant-loop-at l = events_in_all l.script.items ≡ events_in_all l.initial.script.items ++ each_word l.kind l.first l.at

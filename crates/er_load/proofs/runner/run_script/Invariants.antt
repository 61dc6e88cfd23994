use Rattle.std.proofs.Common.{take}
use Rattle.er_load.specs.Inner.Progress.{HasMade}
use Rattle.er_load.specs.Inner.Scripts.{events_in_all}
use Rattle.er_load.proofs.runner.run_script.Given as goal

abbrev pub invariant-loop-action : goal.invariant-loop-action
invariant-loop-action g l = HasMade l.initial.seat l.seat (events_in_all (take l.action-index l.script))

use Rattle.std.proofs.Common.{rules}
use Rattle.er_load.specs.Inner.Progress.{HasMade}
use Rattle.er_load.specs.Workloads.{stage_events}
use Rattle.er_load.proofs.AcceptLemmas.{stage_events-accepted}
use Rattle.er_load.proofs.ScriptLemmas.{from-none}
use Rattle.er_load.proofs.runner.DetectorRunnerRunner.run_task.Goals as goal

pub run_script-requires : goal.run_script-requires
run_script-requires g c = rw (c.as_slice.ensures.value, from-none _ _ _ c.new-script.ensures.items c.in_ok-add_task.ensures) (stage_events-accepted c.args.task.workload c.args.task.stage c.args.task.thread c.args.seat c.requires.before)

pub returns-clause-seat : goal.returns-clause-seat
returns-clause-seat g c =
    let made : HasMade c.args.seat c.run_script.new.seat (stage_events c.args.task.workload c.args.task.stage c.args.task.thread) =
    rw (c.as_slice.ensures.value, from-none _ _ _ c.new-script.ensures.items c.in_ok-add_task.ensures) at c.in_ok-run_script.ensures.made in
    search rules

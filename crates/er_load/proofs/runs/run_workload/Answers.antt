use Rattle.std.proofs.Common.{◌≡◌, arith, length}
use Rattle.er_load.specs.Workloads.{thread_count}
use Rattle.er_load.specs.Inner.Progress.{done_after}
use Rattle.er_load.specs.declared.workloads.Stage.TheVariants.{Second}
use Rattle.er_load.proofs.RunLemmas.{run-events, run-count, seats-once, seats-named, may-fail}
use Rattle.er_load.proofs.runs.run_workload.Goals as goal

pub returns-in-Ok-clause-events : goal.returns-in-Ok-clause-events
returns-in-Ok-clause-events g c =
    let count : length c.in_ok-seats.seats.items ≡ thread_count c.args.workload = omega (arith, c.in_ok-seats.ensures.count) in
    run-events _ _ _ _ c.in-Ok.ensures.order count c.in_ok-seats.ensures.seats

pub returns-in-Ok-clause-count : goal.returns-in-Ok-clause-count
returns-in-Ok-clause-count g c =
    let count : length c.in_ok-seats.seats.items ≡ thread_count c.args.workload = omega (arith, c.in_ok-seats.ensures.count) in
    let steps = run-count _ _ (run-events _ _ _ _ c.in-Ok.ensures.order count c.in_ok-seats.ensures.seats) in
    omega (arith, steps)

pub returns-clause-faults : goal.returns-clause-faults
returns-clause-faults g c = may-fail _ _ _ c.in-Err.fault c.in-Err.ensures.first (seats-named (done_after c.args.workload Second) _ _ c.in_ok-seats.ensures.seats (rw c.in_ok-detector.ensures c.config.ensures.name)) (seats-once (done_after c.args.workload Second) _ c.in_ok-seats.ensures.seats)

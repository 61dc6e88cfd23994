use Rattle.std.proofs.Common.{◌≡◌, ℕ, Some, length, slice_get, refl, subst, arith}
use Rattle.std.proofs.lemmas.Option.{slice_get_read}
use Rattle.er_parallel.proofs.CrewLemmas.{IsLeastKnown, fault-next, fault-none}
use Rattle.er_parallel.proofs.crew.least_fault.Goals as goal
use Rattle.er_parallel.proofs.crew.least_fault.Goals.{in-Some, in_default}

pub loop-worker-preserved : goal.loop-worker-preserved
loop-worker-preserved c =
    let there : slice_get c.args.workers.now c.loop-worker.worker-index ≡ Some c.worker-item.result = slice_get_read c.args.workers.now _ c.loop-worker.worker-index c.worker-item.result refl c.loop-worker-test.true c.worker-item.is in
    elim c.match-worker.branch [
      | in-Some w ↦ rw w.least-is (fault-next c.loop-worker.worker-index c.args.workers.now c.worker-item.result w.in-Some.fault there w.in-Some.is c.loop-worker.least w.lesser.result w.lesser.ensures c.loop-worker.invariant)
      | in_default w ↦ rw w.least-is (fault-none c.loop-worker.worker-index c.args.workers.now c.worker-item.result c.loop-worker.least there w.in_default.is c.loop-worker.invariant)
    ]

pub returns : goal.returns
returns c =
    let ended : c.loop-worker.worker-index ≡ length c.args.workers.now = omega (arith, c.loop-worker-test.false, c.loop-worker.auto.worker-index-end) in
    subst (λ (n : ℕ). IsLeastKnown n c.args.workers.now c.loop-worker.least) ended c.loop-worker.invariant

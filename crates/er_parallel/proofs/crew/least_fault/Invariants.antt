use Rattle.er_parallel.proofs.CrewLemmas.{IsLeastKnown}
use Rattle.er_parallel.proofs.crew.least_fault.Given as goal

abbrev pub invariant-loop-worker : goal.invariant-loop-worker
invariant-loop-worker l = IsLeastKnown l.worker-index l.workers l.least

-- What was passed over so far is answered by others.
use Rattle.er_parallel.specs.Inner.Taking.{AreIdle}
use Rattle.er_parallel.proofs.worker.next_busy.Given as goal

abbrev pub invariant-loop-at : goal.invariant-loop-at
invariant-loop-at l = AreIdle l.share l.from l.at l.steps

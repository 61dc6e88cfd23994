use Rattle.er_parallel.proofs.MergingLemmas.{IsLeastSoFar}
use Rattle.er_parallel.proofs.crew.least_head.Given as goal

abbrev pub invariant-loop-index : goal.invariant-loop-index
invariant-loop-index l = IsLeastSoFar l.index l.workers l.least

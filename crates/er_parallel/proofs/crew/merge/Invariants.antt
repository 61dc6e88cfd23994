use Rattle.std.proofs.Common.{◌≡◌}
use Rattle.er_parallel.specs.Inner.Merging.{AreApart, AreMerged, count_found, machines_of}
use Rattle.er_parallel.proofs.crew.merge.Given as goal

abbrev pub invariant-loop-item : goal.invariant-loop-item
invariant-loop-item l = record {
  machines : machines_of l.workers ≡ machines_of l.initial.workers;
  merged : AreApart l.initial.workers → AreMerged l.initial.workers l.workers l.items.items;
}

abbrev pub decreases-loop-item : goal.decreases-loop-item
decreases-loop-item l = count_found l.workers

use Rattle.std.proofs.Common.{nat_eq, take}
use Rattle.indexmap.specs.IndexMap.{get}
use Rattle.er_clock.specs.Counts.{count_by}
use Rattle.er_epochs.proofs.Noted.{Leaves}
use Rattle.er_epochs.proofs.reads.useful_of.Given as goal

abbrev pub invariant-loop-read : goal.invariant-loop-read
invariant-loop-read g l = Leaves (count_by l.clock) (take l.read-index l.reads.items) l.left.items (λ t. get nat_eq l.counts t)

-- Each place is right, but for those of the items that are left.
use Rattle.std.specs.Vec.Iter.{into_iter_items}
use Rattle.er_parallel.specs.Inner.Gathering.{AreRightBut}
use Rattle.er_parallel.proofs.replay.gather.Given as goal

abbrev pub invariant-loop-item : goal.invariant-loop-item
invariant-loop-item l = AreRightBut l.steps l.given (into_iter_items l.item-iterator)

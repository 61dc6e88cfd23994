use Rattle.std.proofs.Common.{◌≡◌, ◌+◌, false, length}
use Rattle.std.specs.Vec.Iter.{into_iter_items}
use Rattle.er_parallel.specs.Inner.Crewing.{AreFresh}
use Rattle.er_parallel.proofs.crew.join_all.Given as goal

abbrev pub invariant-loop-handle : goal.invariant-loop-handle
invariant-loop-handle g l = record {
  fresh : AreFresh l.all.items;
  count : l.lacking ≡ false → length l.all.items + length (into_iter_items l.handle-iterator) ≡ length l.fn.handles.items;
}

use Rattle.std.proofs.Common.{length, refl, ap, arith}
use Rattle.er_parallel.proofs.crew.join_all.Goals as goal

pub loop-handle-preserved-then-not-add : goal.loop-handle-preserved-then-not-add
loop-handle-preserved-then-not-add g c = record {
  fresh = c.add.ensures.fresh c.loop-handle.invariant.fresh;
  count = λ none. cc;
}

pub loop-handle-preserved : goal.loop-handle-preserved
loop-handle-preserved g c = record {
  fresh = c.add.ensures.fresh c.loop-handle.invariant.fresh;
  count = λ none.
      let was = c.loop-handle.invariant.count none in
      let added = c.if-not-add.ensures.count refl in
      let next = ap length c.in-Some.ensures.steps.0 in
      omega (arith, was, added, next);
}

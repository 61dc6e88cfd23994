use Rattle.std.proofs.Common.{arith}
use Rattle.er_load.proofs.JoinLemmas.{joined-more}
use Rattle.er_load.proofs.runs.join_all.Goals as goal

pub loop-worker-preserved : goal.loop-worker-preserved
loop-worker-preserved g c = record {
  all = (let a = c.in-Some.ensures.steps.1 in let b = c.push_reserved.ensures.len in let e = c.loop-worker.invariant.all in omega arith);
  room = (let d = c.push_reserved.ensures.capacity in let e = c.loop-worker.invariant.room in omega arith);
  joined = joined-more _ _ _ _ _ _ c.join.result c.loop-worker.invariant.joined c.in-Some.ensures.steps.0 c.push_reserved.ensures.items (λ workload stage t is. rw is at c.join.ensures.0) c.join.ensures.1;
}

use Rattle.std.proofs.Common.{◌≡◌, Some, slice_get, refl}
use Rattle.std.proofs.lemmas.Option.{slice_get_read}
use Rattle.er_parallel.proofs.MergingLemmas.{head-at, head-bare, head-next, head-none}
use Rattle.er_parallel.proofs.crew.least_head.Goals as goal
use Rattle.er_parallel.proofs.crew.least_head.Goals.{in-Some, in_default}

pub loop-index-preserved : goal.loop-index-preserved
loop-index-preserved c =
    let there : slice_get c.args.workers.now c.loop-index.index ≡ Some c.index-workers-index.result = slice_get_read c.args.workers.now _ c.loop-index.index c.index-workers-index.result refl c.loop-index-test.true c.index-workers-index.is in
    elim c.match-front.branch [
      | in-Some w ↦ (
          let item = rw w.in-Some.is at c.front.ensures.item in
          rw w.least-is
          (head-next c.args.workers.now c.loop-index.index _ (head-at c.args.workers.now c.loop-index.index c.index-workers-index.result w.in-Some.head.now there item.3.0 item.1) c.loop-index.least w.lesser_head.result w.lesser_head.ensures c.loop-index.invariant))
      | in_default w ↦ (
          let item = rw w.in_default.is at c.front.ensures.item in
          rw w.least-is
          (head-none c.args.workers.now c.loop-index.index c.loop-index.least (head-bare c.args.workers.now c.loop-index.index c.index-workers-index.result there item.3) c.loop-index.invariant))
    ]

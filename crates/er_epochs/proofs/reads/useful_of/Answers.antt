-- Each turn leaves the next read, unless it is of no use.
use Rattle.std.proofs.Common.{◌≡◌, ◌∙◌, ◌∷◌, ◌++◌, ◌+◌, [], nat_eq, sym, take}
use Rattle.indexmap.specs.IndexMap.{get}
use Rattle.er_clock.specs.Counts.{count_by}
use Rattle.er_epochs.proofs.Noted.{item_next, leaves_put, leaves_out}
use Rattle.er_epochs.proofs.reads.useful_of.Goals as goal
use Rattle.er_epochs.proofs.reads.useful_of.Goals.{then-is_useful+in_ok-insert+in_ok-push, else-is_useful}

pub loop-read-preserved : goal.loop-read-preserved
loop-read-preserved g c =
    let next : take (c.loop-read.read-index + 1) c.args.reads.now.items ≡ take c.loop-read.read-index c.args.reads.now.items ++ c.read-item.result ∷ [] =
    item_next c.args.reads.now.items c.loop-read.read-index c.read-item.result (rw c.deref-read-items.ensures.value at c.loop-read-test.true) (rw c.deref-read-items.ensures.value at c.read-item.is) in
    elim c.if-is_useful.branch [
      | then-is_useful+in_ok-insert+in_ok-push w ↦
          rw (w.left-is, w.counts-is)
          (leaves_put (count_by c.args.clock.now) (take c.loop-read.read-index c.args.reads.now.items) c.loop-read.left.items (λ t. get nat_eq c.loop-read.counts t) c.read-item.result c.loop-read.invariant
          _ _ (λ t. get nat_eq w.insert.new.self t) w.from.result next w.in_ok-push.ensures.items (w.from.ensures ∙ w.number.ensures.value) w.in_ok-insert.ensures.updates.0)
      | else-is_useful w ↦
          rw (w.left-is, w.counts-is)
          (leaves_out (count_by c.args.clock.now) (take c.loop-read.read-index c.args.reads.now.items) c.loop-read.left.items (λ t. get nat_eq c.loop-read.counts t) c.read-item.result c.loop-read.invariant
          (sym c.is_useful.ensures ∙ w.if-is_useful.false) _ next)
    ]

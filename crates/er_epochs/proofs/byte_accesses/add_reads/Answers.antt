use Rattle.std.proofs.Common.{◌≡◌, ◌∷◌, ◌++◌, ◌+◌, [], take}
use Rattle.er_epochs.proofs.KnownLemmas.{added-next}
use Rattle.er_epochs.proofs.Noted.{item_next}
use Rattle.er_epochs.proofs.byte_accesses.add_reads.Goals as goal

pub loop-read-preserved : goal.loop-read-preserved
loop-read-preserved g c =
    let next : take (c.loop-read.read-index + 1) c.args.reads.now.items ≡ take c.loop-read.read-index c.args.reads.now.items ++ c.read-item.result ∷ [] =
    item_next c.args.reads.now.items c.loop-read.read-index c.read-item.result (rw c.deref-read-items.ensures.value at c.loop-read-test.true) (rw c.deref-read-items.ensures.value at c.read-item.is) in
    added-next c.args.accesses.now.items c.loop-read.accesses.items _ c.args.reads.now.items c.loop-read.read-index (c.loop-read.read-index + 1) c.read-item.result c.access_whole.result next
    c.loop-read.invariant c.access_whole.ensures c.in_ok-push.ensures.items

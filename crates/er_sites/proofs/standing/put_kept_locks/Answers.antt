-- One lock more, and how it was held.
use Rattle.er_print.proofs.LineLemmas.{one_more}
use Rattle.er_sites.specs.Text.{kept_text}
use Rattle.er_sites.proofs.standing.put_kept_locks.Goals as goal

pub loop-lock-preserved : goal.loop-lock-preserved
loop-lock-preserved c =
    one_more (kept_text c.args.names.now c.args.write_held.now) c.args.locks.now c.loop-lock.lock-index c.lock-item.result c.lock-item.result c.args.out.now.items c.loop-lock.out.items c.put.new.out.items
    c.loop-lock-test.true c.lock-item.is c.loop-lock.invariant (rw (← c.contains.ensures, ← c.mode_text-mode.ensures) c.in_ok-put.ensures.joined)

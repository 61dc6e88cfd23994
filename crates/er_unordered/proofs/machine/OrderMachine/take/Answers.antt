use Rattle.er_event.proofs.Results.{on_ok}
use Rattle.er_unordered.proofs.machine.OrderMachine.take.Goals as goal

pub returns-in-Access-clause-changes : goal.returns-in-Access-clause-changes
returns-in-Access-clause-changes g c =
    rw c.in-Access.is (on_ok c.access.result _ _ c.access.ensures.changes (λ changed. record { held = changed.held; clocks = changed.clocks; room = changed.room; words = changed.words }))

pub returns-in-Reuse-clause-changes : goal.returns-in-Reuse-clause-changes
returns-in-Reuse-clause-changes g c = rw c.in-Reuse.is (c.reuse.ensures.changes c.args.bytes c.args.tag)

pub returns-in-Reuse-clause-answered : goal.returns-in-Reuse-clause-answered
returns-in-Reuse-clause-answered g c = rw c.in-Reuse.is (c.reuse.ensures.answered c.args.bytes)

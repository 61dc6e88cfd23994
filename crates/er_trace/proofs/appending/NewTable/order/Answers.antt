use Rattle.std.proofs.Common.{sym, ap, ◌∙◌}
use Rattle.er_event.specs.declared.steps.Sync.TheVariants.{Start, Join, Signal, Await}
use Rattle.er_trace.specs.Appended.{renumbered_order}
use Rattle.er_trace.proofs.RenumberingLemmas.{number_at}
use Rattle.er_trace.proofs.appending.NewTable.order.Goals as goal

pub returns-in-Start : goal.returns-in-Start
returns-in-Start c = λ old new are named.
    let known = rw c.in-Start.is at named in
    ap Start (c.thread.ensures ∙ number_at c.args.self.now.threads old.threads new.threads c.in-Start.thread are.threads known)
    ∙ ap (renumbered_order old new) (sym c.in-Start.is)

pub returns-in-Join : goal.returns-in-Join
returns-in-Join c = λ old new are named.
    let known = rw c.in-Join.is at named in
    ap Join (c.thread-in-Join.ensures ∙ number_at c.args.self.now.threads old.threads new.threads c.in-Join.thread are.threads known)
    ∙ ap (renumbered_order old new) (sym c.in-Join.is)

pub returns-in-Signal : goal.returns-in-Signal
returns-in-Signal c = λ old new are named.
    let known = rw c.in-Signal.is at named in
    ap Signal (c.lock.ensures ∙ number_at c.args.self.now.locks old.locks new.locks c.in-Signal.object are.locks known)
    ∙ ap (renumbered_order old new) (sym c.in-Signal.is)

pub returns-in-Await : goal.returns-in-Await
returns-in-Await c = λ old new are named.
    let known = rw c.in-Await.is at named in
    ap Await (c.lock-in-Await.ensures ∙ number_at c.args.self.now.locks old.locks new.locks c.in-Await.object are.locks known)
    ∙ ap (renumbered_order old new) (sym c.in-Await.is)

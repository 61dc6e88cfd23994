use Rattle.std.proofs.Common.{ℕ, sym, ap, ◌∙◌}
use Rattle.er_event.specs.declared.steps.Event.TheVariants.{Acquire, Release, Access}
use Rattle.er_trace.specs.Appended.{renumbered_event}
use Rattle.er_trace.proofs.RenumberingLemmas.{number_at, site_at}
use Rattle.er_trace.proofs.appending.NewTable.event.Goals as goal

pub returns-in-Acquire : goal.returns-in-Acquire
returns-in-Acquire c = λ old new are named.
    let known = rw c.in-Acquire.is at named in
    ap (λ (n : ℕ). Acquire n c.in-Acquire.mode) (c.lock.ensures ∙ number_at c.args.self.now.locks old.locks new.locks c.in-Acquire.lock are.locks known)
    ∙ ap (renumbered_event old new) (sym c.in-Acquire.is)

pub returns-in-Release : goal.returns-in-Release
returns-in-Release c = λ old new are named.
    let known = rw c.in-Release.is at named in
    ap (λ (n : ℕ). Release n c.in-Release.mode) (c.lock-in-Release.ensures ∙ number_at c.args.self.now.locks old.locks new.locks c.in-Release.lock are.locks known)
    ∙ ap (renumbered_event old new) (sym c.in-Release.is)

pub returns-in-Access : goal.returns-in-Access
returns-in-Access c = λ old new are named.
    let known = rw c.in-Access.is at named in
    ap (λ (n : ℕ). Access c.in-Access.kind c.in-Access.word n) (c.site.ensures ∙ site_at c.args.self.now.sites old.sites new.sites c.in-Access.site are.sites known)
    ∙ ap (renumbered_event old new) (sym c.in-Access.is)

use Rattle.std.proofs.Common.{◌≡◌, ◌==◌, ℕ, cond, max, ap, ap₂, ◌∙◌}
use Rattle.er_event.proofs.Results.{on_ok}
use Rattle.er_event.specs.declared.steps.Mode.TheVariants.{Read, Write}
use Rattle.er_order.specs.Order.{Acquired}
use Rattle.er_order.proofs.ClockSteps.{acquired}
use Rattle.er_clock.specs.Clock.{count_in}
use Rattle.er_clock.specs.Table.{known_by}
use Rattle.er_clock.specs.Counts.{known_to}
use Rattle.er_clock.specs.Standing.{counts}
use Rattle.er_clock.proofs.Standing.{takes-found}
use Rattle.er_clock.specs.contracts.clocks.Clocks.{the_view}
use Rattle.er_clock.proofs.clocks.Clocks.acquire.Goals as goal

pub returns-in-Read-clause-ok : goal.returns-in-Read-clause-ok
returns-in-Read-clause-ok c =
    rw (← c.self.view_is, c.in-Read.is)
    (on_ok c.take.result _ _ c.take.ensures.ok (λ new.
    takes-found (the_view c.self.inside) c.take.new.self c.args.thread (Acquired c.args.lock Read) (known_by c.self.inside.written c.args.lock)
    (λ k u. acquired (counts (the_view c.self.inside)) c.args.thread u c.args.lock Read k)
    (λ n u. new n u ∙ ap (λ f. cond (n == c.args.thread) (max (known_to c.self.inside.threads n u) f) (known_to c.self.inside.threads n u)) (found u))))
  where
    found : (u : ℕ) → count_in c.get-written.result.now u ≡ known_by c.self.inside.written c.args.lock u
    found u = c.get-written.ensures u ∙ ap (λ number. known_by c.self.inside.written number u) c.number.ensures

pub returns-in_ok-take_both-in-Write-clause-ok : goal.returns-in_ok-take_both-in-Write-clause-ok
returns-in_ok-take_both-in-Write-clause-ok c =
    rw (← c.self.view_is, c.in-Write.is)
    (takes-found (the_view c.self.inside) c.take_both.new.self c.args.thread (Acquired c.args.lock Write)
    (λ u. max (known_by c.self.inside.written c.args.lock u) (known_by c.self.inside.read c.args.lock u))
    (λ k u. acquired (counts (the_view c.self.inside)) c.args.thread u c.args.lock Write k)
    (λ n u. c.in_ok-take_both-in-Write.ensures.ok n u ∙ ap₂ (λ f g. cond (n == c.args.thread) (max (known_to c.self.inside.threads n u) (max f g)) (known_to c.self.inside.threads n u)) (written u) (read u)))
  where
    written : (u : ℕ) → count_in c.get-written.result.now u ≡ known_by c.self.inside.written c.args.lock u
    written u = c.get-written.ensures u ∙ ap (λ number. known_by c.self.inside.written number u) c.number.ensures

    read : (u : ℕ) → count_in c.get-read.result.now u ≡ known_by c.self.inside.read c.args.lock u
    read u = c.get-read.ensures u ∙ ap (λ number. known_by c.self.inside.read number u) c.number-in-Write.ensures

use Rattle.std.proofs.Common.{◌≡◌, ◌==◌, ℕ, cond, max, ap, ◌∙◌, refl}
use Rattle.er_event.proofs.Results.{on_ok}
use Rattle.er_order.specs.Order.{Started, Joined, Signalled, Awaited}
use Rattle.er_order.proofs.ClockSteps.{started, joined, awaited}
use Rattle.er_clock.specs.Clock.{count_in}
use Rattle.er_clock.specs.Table.{known_by}
use Rattle.er_clock.specs.Counts.{known_to}
use Rattle.er_clock.specs.Standing.{counts}
use Rattle.er_clock.proofs.Outcomes.{on_both}
use Rattle.er_clock.proofs.Standing.{flows-own, flows-joined, gives-object, hands-on, takes-found}
use Rattle.er_clock.specs.contracts.clocks.Clocks.{the_view}
use Rattle.er_clock.proofs.clocks.Clocks.synchronize.Goals as goal

pub returns-in-Start-clause-ok : goal.returns-in-Start-clause-ok
returns-in-Start-clause-ok c =
    rw (← c.self.view_is, c.in-Start.is)
    (on_ok c.hand_on.result _ _ c.hand_on.ensures.ok (λ new.
    hands-on (the_view c.self.inside) c.hand_on.new.self c.args.thread (Started c.in-Start.started) c.args.thread c.in-Start.started
    (λ k u. started (counts (the_view c.self.inside)) c.args.thread u c.in-Start.started k) new))

pub returns-in-Start-clause-full : goal.returns-in-Start-clause-full
returns-in-Start-clause-full c =
    rw (← c.self.view_is, c.in-Start.is) (λ full. (c.args.thread, flows-own (record { thread = c.args.thread; sync = Started c.in-Start.started }) refl, c.hand_on.ensures.full full))

pub returns-in-Join-clause-ok : goal.returns-in-Join-clause-ok
returns-in-Join-clause-ok c =
    rw (← c.self.view_is, c.in-Join.is)
    (on_ok c.hand_on-in-Join.result _ _ c.hand_on-in-Join.ensures.ok (λ new.
    hands-on (the_view c.self.inside) c.hand_on-in-Join.new.self c.args.thread (Joined c.in-Join.joined) c.in-Join.joined c.args.thread
    (λ k u. joined (counts (the_view c.self.inside)) c.args.thread u c.in-Join.joined k) new))

pub returns-in-Join-clause-full : goal.returns-in-Join-clause-full
returns-in-Join-clause-full c =
    rw (← c.self.view_is, c.in-Join.is) (λ full. (c.in-Join.joined, flows-joined c.args.thread c.in-Join.joined, c.hand_on-in-Join.ensures.full full))

pub returns-in-Signal-clause-ok : goal.returns-in-Signal-clause-ok
returns-in-Signal-clause-ok c =
    rw (← c.self.view_is, c.in-Signal.is)
    (on_both c.give.result _ _ _ c.give.ensures.ok c.give.ensures.given (λ ticked given.
    gives-object (the_view c.self.inside) c.give.new.self c.args.thread ticked c.in-Signal.object c.give.new.clocks (rw c.number.ensures at given)))

pub returns-in-Signal-clause-full : goal.returns-in-Signal-clause-full
returns-in-Signal-clause-full c =
    rw (← c.self.view_is, c.in-Signal.is) (λ full. (c.args.thread, flows-own (record { thread = c.args.thread; sync = Signalled c.in-Signal.object }) refl, c.give.ensures.full full))

pub returns-in_ok-take-in-Await-clause-ok : goal.returns-in_ok-take-in-Await-clause-ok
returns-in_ok-take-in-Await-clause-ok c =
    rw (← c.self.view_is, c.in-Await.is)
    (takes-found (the_view c.self.inside) c.take.new.self c.args.thread (Awaited c.in-Await.object) (known_by c.self.inside.objects c.in-Await.object)
    (λ k u. awaited (counts (the_view c.self.inside)) c.args.thread u c.in-Await.object k)
    (λ n u. c.in_ok-take-in-Await.ensures.ok n u ∙ ap (λ f. cond (n == c.args.thread) (max (known_to c.self.inside.threads n u) f) (known_to c.self.inside.threads n u)) (found u)))
  where
    found : (u : ℕ) → count_in c.get-signals.result.now u ≡ known_by c.self.inside.objects c.in-Await.object u
    found u = c.get-signals.ensures u ∙ ap (λ number. known_by c.self.inside.objects number u) c.number-in-Await.ensures

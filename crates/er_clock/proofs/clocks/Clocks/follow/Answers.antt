use Rattle.std.proofs.Common.{◌≡◌, ◌∙◌, false, Some, refl, ap, sym, rules, tests}
use Rattle.er_order.specs.Clocks.{clocks_after}
use Rattle.er_order.specs.Order.{Effect, Local, Acquired, Released, Started, Joined, Signalled, Awaited, sync_of}
use Rattle.er_order.proofs.ClockSteps.{local}
use Rattle.er_clock.specs.Crowding.{orders_by}
use Rattle.er_clock.specs.Standing.{act_if, counts, Moves}
use Rattle.er_event.proofs.Results.{on_ok}
use Rattle.er_clock.proofs.Standing.{stands-on}
use Rattle.er_clock.proofs.clocks.Clocks.follow.Goals as goal

no_order : (e : Effect) → orders_by e ≡ false → e ≡ Local
no_order Local off = refl
no_order (Acquired _ _) off = absurd (let never = off in cc)
no_order (Released _ _) off = absurd (let never = off in cc)
no_order (Started _) off = absurd (let never = off in cc)
no_order (Joined _) off = absurd (let never = off in cc)
no_order (Signalled _) off = absurd (let never = off in cc)
no_order (Awaited _) off = absurd (let never = off in cc)

-- an event that does not order threads moves no clock
stays : (c : goal.Then-not-orders) → Moves c.args.self.now (act_if c.args.accepted c.args.step.now) c.args.self.now
stays c k u =
    let off : c.orders.result ≡ false = search (rules, tests) in
    let is : sync_of c.args.step.now.event ≡ Local = no_order (sync_of c.args.step.now.event) (sym c.orders.ensures ∙ off) in
    rw c.if-accepted.true
    (sym (local (counts c.args.self.now) c.args.step.now.thread u k)
    ∙ ap (λ sync. clocks_after (counts c.args.self.now) (Some (record { thread = c.args.step.now.thread; sync = sync })) k u) (sym is))

pub returns-then-not-orders-clause-moves : goal.returns-then-not-orders-clause-moves
returns-then-not-orders-clause-moves c = stays c

pub returns-then-not-orders-clause-goes_on : goal.returns-then-not-orders-clause-goes_on
returns-then-not-orders-clause-goes_on c steps stands is =
    stands-on c.args.self.now c.args.self.now steps c.args.step.now c.args.accepted stands is (stays c)

pub returns-in_ok-grow-clause-moves : goal.returns-in_ok-grow-clause-moves
returns-in_ok-grow-clause-moves c = rw (← c.self.view_is, ← c.grow.ensures, c.if-accepted.true) c.take.ensures.ok

pub returns-in_ok-grow-clause-goes_on : goal.returns-in_ok-grow-clause-goes_on
returns-in_ok-grow-clause-goes_on c steps stands is =
    on_ok c.take.result _ _ c.take.ensures.ok (λ moves.
    stands-on c.args.self.now c.take.new.self steps c.args.step.now c.args.accepted stands is (rw (← c.self.view_is, ← c.grow.ensures, c.if-accepted.true) moves))

pub returns-else-accepted-clause-goes_on : goal.returns-else-accepted-clause-goes_on
returns-else-accepted-clause-goes_on c steps stands is =
    stands-on c.args.self.now c.args.self.now steps c.args.step.now c.args.accepted stands is (rw c.if-accepted.false (λ k u. refl))

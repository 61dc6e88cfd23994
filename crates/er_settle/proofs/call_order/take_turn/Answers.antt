use Rattle.std.proofs.Common.{◌≡◌, ◌∙◌, ◌++◌, ◌∷◌, [], length, sym, refl, ap, arith}
use Rattle.std.proofs.lemmas.Option.{slice_get_read}
use Rattle.er_settle.specs.Runs.{turn_of}
use Rattle.er_settle.proofs.TurnLemmas.{taking-more, taking-last, taking-end}
use Rattle.er_settle.proofs.call_order.take_turn.Goals as goal

pub loop-at-preserved : goal.loop-at-preserved
loop-at-preserved c =
    let here = rw c.calls-calls.ensures.calls at (slice_get_read c.calls-calls.result.now _ _ c.index-calls-at.result refl c.loop-at-test.true c.index-calls-at.is) in
    let grown : c.push.new.self.items ≡ c.loop-at.turns.items ++ turn_of c.args.seat.now.thread c.index-calls-at.result ∷ [] = rw c.thread-thread.ensures at c.in_ok-push.ensures.items in
    rw grown (taking-more c.args.seat.now.thread c.args.seat.now.calls c.args.from _ c.loop-at.at c.loop-at.turns.items c.loop-at.invariant c.index-calls-at.result here (rw c.ticket.ensures at (sym c.is_some.ensures ∙ c.if-is_some.false)))

pub returns-then-is_some-clause-next : goal.returns-then-is_some-clause-next
returns-then-is_some-clause-next c =
    let here = rw c.calls-calls.ensures.calls at (slice_get_read c.calls-calls.result.now _ _ c.index-calls-at.result refl c.loop-at-test.true c.index-calls-at.is) in
    (taking-last c.args.seat.now.thread c.args.seat.now.calls c.args.from _ c.loop-at.at c.loop-at.turns.items c.loop-at.invariant c.index-calls-at.result here (rw c.ticket.ensures at (sym c.is_some.ensures ∙ c.if-is_some.true))).0

pub returns-then-is_some-clause-turns : goal.returns-then-is_some-clause-turns
returns-then-is_some-clause-turns c =
    let here = rw c.calls-calls.ensures.calls at (slice_get_read c.calls-calls.result.now _ _ c.index-calls-at.result refl c.loop-at-test.true c.index-calls-at.is) in
    let grown : c.push.new.self.items ≡ c.loop-at.turns.items ++ turn_of c.args.seat.now.thread c.index-calls-at.result ∷ [] = rw c.thread-thread.ensures at c.in_ok-push.ensures.items in
    grown ∙ (taking-last c.args.seat.now.thread c.args.seat.now.calls c.args.from _ c.loop-at.at c.loop-at.turns.items c.loop-at.invariant c.index-calls-at.result here (rw c.ticket.ensures at (sym c.is_some.ensures ∙ c.if-is_some.true))).1

pub returns-clause-next : goal.returns-clause-next
returns-clause-next c =
    let n = ap length c.calls-calls.ensures.calls in
    let within = c.loop-at.auto.at-end (omega (arith, n, c.requires)) in
    n ∙ (taking-end c.args.seat.now.thread c.args.seat.now.calls c.args.from _ c.loop-at.at c.loop-at.turns.items c.loop-at.invariant (omega (arith, n, c.loop-at-test.false)) (omega (arith, n, within))).0

pub returns-clause-turns : goal.returns-clause-turns
returns-clause-turns c =
    let n = ap length c.calls-calls.ensures.calls in
    let within = c.loop-at.auto.at-end (omega (arith, n, c.requires)) in
    (taking-end c.args.seat.now.thread c.args.seat.now.calls c.args.from _ c.loop-at.at c.loop-at.turns.items c.loop-at.invariant (omega (arith, n, c.loop-at-test.false)) (omega (arith, n, within))).1

use Rattle.std.proofs.Common.{refl, arith, inr, length, ap}
use Rattle.er_settle.specs.Inner.JournalOrder.{IsLeast, IsNext}
use Rattle.er_settle.proofs.OrderLemmas.{next_at, next_within, place_within, order-step, order-not, order-done, order-rises}
use Rattle.er_settle.proofs.call_order.merge_journals.Goals as goal

pub prove-unreachable-requires : goal.prove-unreachable-requires
prove-unreachable-requires c =
    let least : IsLeast c.args.journals.now c.loop-place.read.items c.in-Some.place = rw c.as_slice.ensures.value at c.in-Some.ensures.some in
    let within = next_within c.args.journals.now c.loop-place.read.items c.in-Some.place c.index-journals-place.result c.entries-journal.result.now c.index-at.result.now least c.index-journals-place.is c.entries-journal.ensures.entries c.loop-place.invariant.places c.index-at.ensures in
    omega (arith, within, c.if-prove.true)

pub returns-then-not-is_above-clause-fault : goal.returns-then-not-is_above-clause-fault
returns-then-not-is_above-clause-fault c =
    let least : IsLeast c.args.journals.now c.loop-place.read.items c.in-Some.place = rw c.as_slice.ensures.value at c.in-Some.ensures.some in
    let next : IsNext c.args.journals.now c.loop-place.read.items c.in-Some.place c.index-journal-at.result =
    next_at _ _ _ c.index-journals-place.result _ c.index-at.result.now _ least c.index-journals-place.is c.entries-journal.ensures.entries c.loop-place.invariant.places c.index-at.ensures c.index-journal-at.is in
    inr (refl, order-not c.args.journals.now c.loop-place.read.items c.loop-place.order.items c.loop-place.last c.in-Some.place c.index-journal-at.result c.loop-place.invariant next (λ a. let e = c.if-not-is_above.ensures.1 (rw (← c.ticket-ticket.ensures) at a) in cc))

pub index_mut-requires : goal.index_mut-requires
index_mut-requires c =
    let least : IsLeast c.args.journals.now c.loop-place.read.items c.in-Some.place = rw c.as_slice.ensures.value at c.in-Some.ensures.some in
    let within = place_within c.args.journals.now c.loop-place.read.items c.in-Some.place least c.loop-place.invariant.places in
    omega (arith, within, ap length c.as_slice.ensures.value, c.as_slice.ensures.len)

pub loop-place-preserved : goal.loop-place-preserved
loop-place-preserved c =
    let least : IsLeast c.args.journals.now c.loop-place.read.items c.in-Some.place = rw c.as_slice.ensures.value at c.in-Some.ensures.some in
    let next : IsNext c.args.journals.now c.loop-place.read.items c.in-Some.place c.index-journal-at.result =
    next_at _ _ _ c.index-journals-place.result _ c.index-at.result.now _ least c.index-journals-place.is c.entries-journal.ensures.entries c.loop-place.invariant.places c.index-at.ensures c.index-journal-at.is in
    rw c.ticket-ticket.ensures
    (order-step c.args.journals.now c.loop-place.read.items _ c.loop-place.order.items c.push.new.self.items c.loop-place.last c.in-Some.place c.index-at.result.now c.index-journal-at.result c.loop-place.invariant least next
    (rw c.ticket-ticket.ensures at (c.if-not-is_above.ensures.0 refl)) c.index-at.ensures refl c.in-Ok.ensures.items)

pub returns-clause-order : goal.returns-clause-order
returns-clause-order c = order-done c.args.journals.now c.loop-place.read.items c.loop-place.order.items c.loop-place.last c.loop-place.invariant (rw c.as_slice.ensures.value at c.in_default.ensures.none)

pub returns-clause-rise : goal.returns-clause-rise
returns-clause-rise c = order-rises c.args.journals.now c.loop-place.order.items
    (order-done c.args.journals.now c.loop-place.read.items c.loop-place.order.items c.loop-place.last c.loop-place.invariant (rw c.as_slice.ensures.value at c.in_default.ensures.none))

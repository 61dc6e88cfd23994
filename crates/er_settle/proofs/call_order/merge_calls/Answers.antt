-- The places of the seats come by their numbers, and each is gone over once.
use Rattle.std.proofs.Common.{◌≡◌, ◌∙◌, ℕ, List, IfOk, vec_items, refl, subst, arith}
use Rattle.std.specs.BTreeMap.{values}
use Rattle.std.proofs.lemmas.Option.{slice_get_read, slice_get-get_or}
use Rattle.std.proofs.lemmas.Iterator.{items_from_collect}
use Rattle.std.proofs.lemmas.Iterator.Consumers.{YieldsList-from_copied, YieldsList-from_rest}
use Rattle.er_settle.proofs.RestLemmas.{by-number, resting-none, resting-step, rest-calls, rest-told, rest-order}
use Rattle.er_settle.proofs.ListLemmas.{number_read}
use Rattle.er_settle.proofs.TurnLemmas.{from_within}
use Rattle.er_settle.proofs.call_order.merge_calls.Goals as goal

pub loop-place-init : goal.loop-place-init
loop-place-init c =
    let all : List ℕ = values c.args.index.now in
    let same : c.in_ok-places.places.items ≡ all =
    subst (λ r. IfOk r (λ w. vec_items w ≡ all)) c.in_ok-places.was
    (items_from_collect c.collect.result c.collect.ensures.ran (YieldsList-from_copied (YieldsList-from_rest all cc))) in (
      by-number c.args.seats.now c.args.index.now c.requires.once c.requires.index c.values.ensures.ordered c.deref-place-items.result.now (c.deref-place-items.ensures.value ∙ same),
      resting-none c.args.seats.now c.args.order.now c.deref-place-items.result.now c.in_ok-next.field-0.next.items c.in_ok-next.field-0.turns.items c.in_ok-next.ensures,
    )

pub prove-unreachable-requires : goal.prove-unreachable-requires
prove-unreachable-requires c =
    let inside = c.loop-place.invariant.0.inside c.loop-place.place-index _ (slice_get-get_or c.deref-place-items.result.now c.loop-place.place-index 0 c.loop-place-test.true) in
    omega (arith, inside, c.if-prove.true)

pub take_turn-requires : goal.take_turn-requires
take_turn-requires c = from_within c.args.seats.now c.args.order.now _ c.index.result.now c.index-seats-place.result c.in_ok-next.field-0.next.items c.in_ok-next.field-0.turns.items c.in_ok-next.ensures c.if-prove.false c.index-seats-place.is c.index.ensures

pub loop-place-preserved : goal.loop-place-preserved
loop-place-preserved c =
    let here = slice_get-get_or c.deref-place-items.result.now c.loop-place.place-index 0 c.loop-place-test.true in
    let seat = slice_get_read c.args.seats.now _ _ c.index-seats-place.result refl c.if-prove.false c.index-seats-place.is in
    let places = c.in_ok-next.ensures.places in
    let from = number_read c.in_ok-next.field-0.next.items _ c.index.result.now (omega (arith, places, c.if-prove.false)) c.index.ensures in (
      c.loop-place.invariant.0,
      resting-step c.args.seats.now c.args.order.now c.deref-place-items.result.now c.in_ok-next.field-0.next.items c.loop-place.place-index _ c.index-seats-place.result c.in_ok-next.field-0.turns.items c.loop-place.turns.items c.requires.agree c.loop-place.invariant.0 c.in_ok-next.ensures c.loop-place.invariant.1 here seat
          c.index.result.now c.take_turn.new.turns.items from c.in_ok-take_turn.ensures.turns,
    )

pub returns-clause-calls : goal.returns-clause-calls
returns-clause-calls c = rest-calls c.args.seats.now c.args.order.now c.deref-place-items.result.now c.in_ok-next.field-0.next.items c.loop-place.place-index c.in_ok-next.field-0.turns.items c.loop-place.turns.items c.requires.once c.requires.rise c.loop-place.invariant.0 c.in_ok-next.ensures c.loop-place.invariant.1 c.loop-place-test.false

pub returns-clause-told : goal.returns-clause-told
returns-clause-told c = rest-told c.args.seats.now c.args.order.now c.deref-place-items.result.now c.in_ok-next.field-0.next.items c.loop-place.place-index c.in_ok-next.field-0.turns.items c.loop-place.turns.items c.requires.once c.requires.rise c.loop-place.invariant.0 c.in_ok-next.ensures c.loop-place.invariant.1 c.loop-place-test.false

pub returns-clause-order : goal.returns-clause-order
returns-clause-order c = rest-order c.args.seats.now c.args.order.now c.deref-place-items.result.now c.in_ok-next.field-0.next.items c.loop-place.place-index c.in_ok-next.field-0.turns.items c.loop-place.turns.items c.requires.once c.requires.rise c.loop-place.invariant.0 c.in_ok-next.ensures c.loop-place.invariant.1 c.loop-place-test.false

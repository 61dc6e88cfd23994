use Rattle.std.proofs.Common.{◌≡◌, ◌∙◌, sym, refl, ap, arith}
use Rattle.std.specs.Prelude.{Some, None}
use Rattle.std.specs.Ordering.{nat_cmp}
use Rattle.std.specs.BTreeMap.{get}
use Rattle.std.proofs.lemmas.Option.{slice_get_read}
use Rattle.er_settle.specs.Inner.JournalOrder.{EntryAt}
use Rattle.er_settle.proofs.PairLemmas.{deal-not}
use Rattle.er_settle.proofs.TurnLemmas.{each_zero, taken-none, taken-step, seat_inside, from_within}
use Rattle.er_settle.proofs.call_order.take_ticketed.Goals as goal

pub loop-placed-init : goal.loop-placed-init
loop-placed-init c = rw c.new-turns.ensures.items (taken-none c.args.seats.now c.in_ok-next.next.items (omega (arith, c.in_ok-next.ensures.len)) (λ k. rw (c.in_ok-next.ensures.items_if_clones_equal (λ y same. same)) (each_zero _ k)))

pub unreachable-requires : goal.unreachable-requires
unreachable-requires c =
    let here = slice_get_read c.args.order.now _ _ c.placed-item.result refl c.loop-placed-test.true c.placed-item.is in
    let none : get nat_cmp c.args.index.now c.number-number.result ≡ None = sym c.get.ensures.value ∙ (sym c.copied.ensures ∙ c.in_default.is) in
    deal-not c.args.seats.now c.args.order.now c.args.index.now c.loop-placed.placed-index c.placed-item.result c.requires.index here (rw (← (ap (λ (d : EntryAt). d.entry) c.placed.view_is), ← c.thread.ensures.value, ← c.number-number.ensures.value) none) c.requires.given

pub prove-unreachable-requires : goal.prove-unreachable-requires
prove-unreachable-requires c =
    let found : get nat_cmp c.args.index.now c.number-number.result ≡ Some c.in-Some.at = sym c.get.ensures.value ∙ (sym c.copied.ensures ∙ c.in-Some.is) in
    let inside = seat_inside c.args.seats.now c.args.index.now c.number-number.result c.in-Some.at c.requires.index found in
    omega (arith, inside, c.if-prove.true)

pub index-requires : goal.index-requires
index-requires c =
    let places = c.loop-placed.invariant.places in
    omega (arith, c.if-prove.false, places)

pub index_mut-requires : goal.index_mut-requires
index_mut-requires c =
    let places = c.loop-placed.invariant.places in
    omega (arith, c.if-prove.false, places)

pub take_turn-requires : goal.take_turn-requires
take_turn-requires c = from_within c.args.seats.now _ c.in-Some.at c.index.result.now c.index-seats-at.result c.loop-placed.next.items c.loop-placed.turns.items c.loop-placed.invariant c.if-prove.false c.index-seats-at.is c.index.ensures

pub loop-placed-preserved : goal.loop-placed-preserved
loop-placed-preserved c =
    let here = slice_get_read c.args.order.now _ _ c.placed-item.result refl c.loop-placed-test.true c.placed-item.is in
    let found : get nat_cmp c.args.index.now c.number-number.result ≡ Some c.in-Some.at = sym c.get.ensures.value ∙ (sym c.copied.ensures ∙ c.in-Some.is) in
    taken-step c.args.seats.now c.args.order.now c.loop-placed.placed-index c.in-Some.at c.number-number.result c.index.result.now c.in_ok-next-2.field-0 c.placed-item.result c.index-seats-at.result c.loop-placed.next.items _ c.loop-placed.turns.items c.take_turn.new.turns.items c.args.index.now
    c.requires.once c.requires.index c.requires.agree c.loop-placed.invariant here found (c.number-number.ensures.value ∙ (c.thread.ensures.value ∙ ap (λ (d : EntryAt). d.entry.thread) c.placed.view_is)) c.index-seats-at.is c.index.ensures c.in_ok-next-2.ensures.next c.in_ok-next-2.ensures.turns refl

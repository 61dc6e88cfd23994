use Rattle.std.proofs.Common.{◌≡◌, ◌∙◌, sym, refl, arith, inr, ◌<◌, length, ap}
use Rattle.std.specs.Prelude.{Some, None}
use Rattle.std.specs.Ordering.{nat_cmp}
use Rattle.std.specs.BTreeMap.{get}
use Rattle.std.proofs.lemmas.Option.{slice_get_read, slice_get_within}
use Rattle.er_settle.specs.Inner.JournalOrder.{EntryAt}
use Rattle.er_settle.proofs.PairLemmas.{deal-more, deal-not}
use Rattle.er_settle.proofs.entry_matches.group_by_thread.Goals as goal

pub returns-in_default-clause-fault : goal.returns-in_default-clause-fault
returns-in_default-clause-fault c =
    let here = slice_get_read c.args.order.now _ _ c.placed-item.result refl c.loop-placed-test.true c.placed-item.is in
    let none : get nat_cmp c.args.index.now c.number-thread.result ≡ None = sym c.get.ensures.value ∙ (sym c.copied.ensures ∙ c.in_default.is) in
    inr (refl, deal-not c.args.seats.now c.args.order.now c.args.index.now c.loop-placed.placed-index c.placed-item.result c.requires.index here (rw (← (ap (λ (d : EntryAt). d.entry) c.placed.view_is), ← c.thread.ensures.value, ← c.number-thread.ensures.value) none))

pub index_mut-group-requires : goal.index_mut-group-requires
index_mut-group-requires c =
    let found : get nat_cmp c.args.index.now c.number-thread.result ≡ Some c.in-Some.at = sym c.get.ensures.value ∙ (sym c.copied.ensures ∙ c.in-Some.is) in
    let seat = c.requires.index.there c.number-thread.result c.in-Some.at found in
    let within = slice_get_within c.args.seats.now c.in-Some.at seat.0 seat.1 in
    omega (arith, within, c.loop-placed.invariant.dealt.count)

pub loop-placed-preserved : goal.loop-placed-preserved
loop-placed-preserved c =
    let here = slice_get_read c.args.order.now _ _ c.placed-item.result refl c.loop-placed-test.true c.placed-item.is in
    let found : get nat_cmp c.args.index.now c.number-thread.result ≡ Some c.in-Some.at = sym c.get.ensures.value ∙ (sym c.copied.ensures ∙ c.in-Some.is) in
    let seat = c.requires.index.there c.number-thread.result c.in-Some.at found in
    let within = slice_get_within c.args.seats.now c.in-Some.at seat.0 seat.1 in
    let inside : c.in-Some.at < length c.loop-placed.groups.items = omega (arith, within, c.loop-placed.invariant.dealt.count) in
    let had = slice_get_read c.loop-placed.groups.items _ _ c.index_mut-group.result.now refl inside c.index_mut-group.ensures.value in
    let thread = seat.2 ∙ (c.number-thread.ensures.value ∙ (c.thread.ensures.value ∙ ap (λ (d : EntryAt). d.entry.thread) c.placed.view_is)) in
    let r = deal-more c.args.seats.now c.args.order.now c.loop-placed.placed-index c.in-Some.at c.placed-item.result c.loop-placed.groups.items _ c.index_mut-group.result.now c.push.new.self.items seat.0
    c.requires.once c.loop-placed.invariant.dealt c.loop-placed.invariant.given here seat.1 thread had (rw (c.placed.view_is, c.group.view_is) at c.in-Ok.ensures.items) refl in
    record { dealt = r.0; given = r.1 }

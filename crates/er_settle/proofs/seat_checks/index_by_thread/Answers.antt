use Rattle.std.proofs.Common.{◌∙◌, sym, refl, inr}
use Rattle.std.proofs.lemmas.Option.{slice_get_read}
use Rattle.er_settle.proofs.ListLemmas.{all_taken}
use Rattle.er_settle.proofs.NumberLemmas.{numbers-more, twice}
use Rattle.er_settle.proofs.seat_checks.index_by_thread.Goals as goal

pub loop-at-preserved : goal.loop-at-preserved
loop-at-preserved c =
    let here = slice_get_read c.args.seats.now _ _ c.index-seats-at.result refl c.loop-at-test.true c.index-seats-at.is in
    let r = numbers-more c.args.seats.now c.loop-at.at c.number-number.result c.index-seats-at.result c.loop-at.index c.insert.new.self here (c.number-number.ensures.value ∙ c.thread.ensures)
    c.loop-at.invariant.once c.loop-at.invariant.index (sym c.contains_key.ensures ∙ c.if-contains_key.false) c.in-Ok.ensures.updates.0 in
    record { once = r.0; index = r.1 }

pub returns-then-contains_key-clause-twice : goal.returns-then-contains_key-clause-twice
returns-then-contains_key-clause-twice c =
    let here = slice_get_read c.args.seats.now _ _ c.index-seats-at.result refl c.loop-at-test.true c.index-seats-at.is in
    inr (refl, twice c.args.seats.now c.loop-at.at c.number-number.result c.index-seats-at.result c.loop-at.index here (c.number-number.ensures.value ∙ c.thread.ensures) c.loop-at.invariant.index (sym c.contains_key.ensures ∙ c.if-contains_key.true))

pub returns-clause-once : goal.returns-clause-once
returns-clause-once c = rw (all_taken c.args.seats.now c.loop-at.at c.loop-at-test.false) at c.loop-at.invariant.once

pub returns-clause-index : goal.returns-clause-index
returns-clause-index c = rw (all_taken c.args.seats.now c.loop-at.at c.loop-at-test.false) at c.loop-at.invariant.index

use Rattle.std.proofs.Common.{◌≡◌, refl, arith, List}
use Rattle.std.specs.Prelude.{slice_get, slice_index, Some}
use Rattle.std.proofs.lemmas.Option.{slice_get_read, slice_get_within}
use Rattle.er_journal.specs.Entries.{Entry}
use Rattle.er_journal.specs.Journals.{IsLegalJournal}
use Rattle.er_settle.proofs.ListLemmas.{each_next}
use Rattle.er_settle.proofs.OrderLemmas.{soonest-past, soonest-more, least-some, least-none}
use Rattle.er_settle.proofs.call_order.next_journal.Goals as goal

pub loop-place-preserved : goal.loop-place-preserved
loop-place-preserved c =
    let here = slice_get_read c.args.journals.now _ _ c.index-journals-place.result refl c.loop-place-test.true c.index-journals-place.is in
    let next : slice_get c.index-journals-place.result (slice_index c.args.read.now c.loop-place.place) ≡ Some c.index-journal-at.result =
    rw (← c.entries-journal.ensures.entries) (slice_get_read _ _ _ _ refl c.if-at-journal.false c.index-journal-at.is) in
    record {
      soonest = soonest-more c.args.journals.now c.args.read.now c.loop-place.place c.index-journals-place.result c.index-journal-at.result c.loop-place.least _ here next (rw c.ticket.ensures at c.sooner-least.ensures) c.loop-place.invariant.soonest;
      legal = each_next (List Entry) IsLegalJournal c.args.journals.now c.loop-place.place c.index-journals-place.result here c.entries-journal.ensures.legal c.loop-place.invariant.legal;
    }

pub loop-place-preserved-then-at-journal : goal.loop-place-preserved-then-at-journal
loop-place-preserved-then-at-journal c =
    let here = slice_get_read c.args.journals.now _ _ c.index-journals-place.result refl c.loop-place-test.true c.index-journals-place.is in
    record {
      soonest = soonest-past c.args.journals.now c.args.read.now c.loop-place.place c.index-journals-place.result c.loop-place.least here (rw (← c.entries-journal.ensures.entries) c.if-at-journal.true) c.loop-place.invariant.soonest;
      legal = each_next (List Entry) IsLegalJournal c.args.journals.now c.loop-place.place c.index-journals-place.result here c.entries-journal.ensures.legal c.loop-place.invariant.legal;
    }

pub returns-in-Some-clause-some : goal.returns-in-Some-clause-some
returns-in-Some-clause-some c = least-some c.args.journals.now c.args.read.now c.loop-place.place c.in-Some.field-0-0 c.in-Some.place c.loop-place-test.false (rw c.in-Some.is at c.loop-place.invariant.soonest)

pub returns-in-Some-clause-legal : goal.returns-in-Some-clause-legal
returns-in-Some-clause-legal c p s h = c.loop-place.invariant.legal p s (omega (arith, c.loop-place-test.false, slice_get_within c.args.journals.now p s h)) h

pub returns-in-None-clause-none : goal.returns-in-None-clause-none
returns-in-None-clause-none c = least-none c.args.journals.now c.args.read.now c.loop-place.place c.loop-place-test.false (rw c.in-None.is at c.loop-place.invariant.soonest)

pub returns-in-None-clause-legal : goal.returns-in-None-clause-legal
returns-in-None-clause-legal c p s h = c.loop-place.invariant.legal p s (omega (arith, c.loop-place-test.false, slice_get_within c.args.journals.now p s h)) h

use Rattle.std.proofs.Common.{refl, arith}
use Rattle.std.proofs.lemmas.Option.{slice_get_read, slice_get_within}
use Rattle.er_settle.specs.Seats.{SeatList}
use Rattle.er_settle.specs.Inner.JournalOrder.{entries_by}
use Rattle.er_settle.specs.Inner.ReplyMatches.{AreAlike}
use Rattle.er_settle.proofs.ListLemmas.{each_next}
use Rattle.er_settle.proofs.AnswerLemmas.{group-read}
use Rattle.er_settle.proofs.entry_matches.all_answered.Goals as goal

pub returns-then-not-branch : goal.returns-then-not-branch
returns-then-not-branch c =
    let here = slice_get_read c.args.seats.now _ _ c.index-seats-at.result refl c.loop-at-test.true c.index-seats-at.is in
    let group = group-read c.args.seats.now c.args.order.now c.args.groups.now c.loop-at.at c.index-seats-at.result c.index-groups-at.result c.requires.dealt here c.index-groups-at.is in
    (λ t. cc, λ all. absurd (let e = c.in_ok-is_answered.ensures.1 (rw (c.deref.ensures.value, c.group.view_is, group) (all c.loop-at.at c.index-seats-at.result here)) in let no = c.if-not-branch.true in cc (e, no)))

pub loop-at-preserved : goal.loop-at-preserved
loop-at-preserved c =
    let here = slice_get_read c.args.seats.now _ _ c.index-seats-at.result refl c.loop-at-test.true c.index-seats-at.is in
    let group = group-read c.args.seats.now c.args.order.now c.args.groups.now c.loop-at.at c.index-seats-at.result c.index-groups-at.result c.requires.dealt here c.index-groups-at.is in
    each_next SeatList (λ s. AreAlike s (entries_by s.thread c.args.order.now)) c.args.seats.now c.loop-at.at c.index-seats-at.result here (rw (c.deref.ensures.value, c.group.view_is, group) at (c.in_ok-is_answered.ensures.0 c.if-not-branch.false)) c.loop-at.invariant

pub returns : goal.returns
returns c = (λ t i s h. c.loop-at.invariant i s (omega (arith, c.loop-at-test.false, slice_get_within c.args.seats.now i s h)) h, λ all. refl)

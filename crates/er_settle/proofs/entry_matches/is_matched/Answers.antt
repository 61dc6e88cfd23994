use Rattle.std.proofs.Common.{◌∙◌, sym, refl, ap, arith, length}
use Rattle.std.proofs.lemmas.Bool.{eqb-true, eq-eqb}
use Rattle.std.proofs.lemmas.Option.{slice_get_read}
use Rattle.er_settle.proofs.PairLemmas.{agree-skip, agree-more, agree-past, agree-not, agree-end}
use Rattle.er_settle.specs.Inner.JournalOrder.{EntryAt}
use Rattle.er_settle.proofs.entry_matches.is_matched.Goals.{then-ticket-via-then-ticket, then-ticket-via-else-ticket+then-not-records}
use Rattle.er_settle.proofs.entry_matches.is_matched.Goals as goal

pub loop-call-preserved : goal.loop-call-preserved
loop-call-preserved c =
    let next = slice_get_read c.args.group.now _ _ c.index-group-at.result refl c.if-at-group.false c.index-group-at.is in
    let shown = ap (λ (d : EntryAt). d.entry) c.placed.view_is in
    let event = rw (c.event.ensures, shown) at (c.if-not-records.ensures.0 refl) in
    record {
      same = agree-more c.args.calls.now c.args.group.now c.loop-call.call-index c.loop-call.at c.in-Some.ticket c.call-item.result c.index-group-at.result (slice_get_read c.args.calls.now _ _ c.call-item.result refl c.loop-call-test.true c.call-item.is) (sym c.ticket.ensures ∙ c.in-Some.is) c.loop-call.invariant.same next (rw shown at (c.if-ticket.false ∙ c.ticket-in-loop-call.ensures)) event;
      within = omega (arith, c.if-at-group.false);
    }

pub loop-call-preserved-in_default : goal.loop-call-preserved-in_default
loop-call-preserved-in_default c =
    record { same = agree-skip c.args.calls.now c.args.group.now c.loop-call.call-index c.loop-call.at c.call-item.result (slice_get_read c.args.calls.now _ _ c.call-item.result refl c.loop-call-test.true c.call-item.is) (sym c.ticket.ensures ∙ c.in_default.is) c.loop-call.invariant.same; within = c.loop-call.invariant.within }

pub returns-then-at-group : goal.returns-then-at-group
returns-then-at-group c = (λ t. cc, λ same. absurd (agree-past c.args.calls.now c.args.group.now c.loop-call.call-index c.loop-call.at c.in-Some.ticket c.call-item.result (slice_get_read c.args.calls.now _ _ c.call-item.result refl c.loop-call-test.true c.call-item.is) (sym c.ticket.ensures ∙ c.in-Some.is) c.loop-call.invariant.same c.loop-call.invariant.within c.if-at-group.true same))

pub returns-then-ticket : goal.returns-then-ticket
returns-then-ticket c =
    let next = slice_get_read c.args.group.now _ _ c.index-group-at.result refl c.if-at-group.false c.index-group-at.is in
    let shown = ap (λ (d : EntryAt). d.entry) c.placed.view_is in
    let apart = agree-not c.args.calls.now c.args.group.now c.loop-call.call-index c.loop-call.at c.in-Some.ticket c.call-item.result (slice_get_read c.args.calls.now _ _ c.call-item.result refl c.loop-call-test.true c.call-item.is) (sym c.ticket.ensures ∙ c.in-Some.is) c.loop-call.invariant.same c.loop-call.invariant.within c.index-group-at.result next in (
      λ t. cc,
      λ same. absurd (apart
          (λ both. elim c.then-ticket.branch [
            | then-ticket-via-then-ticket w ↦ (rw (c.ticket-in-loop-call.ensures, shown) at w.if-ticket.true) both.0
            | then-ticket-via-else-ticket+then-not-records w ↦ (let e = (rw (w.event.ensures, shown) at w.if-not-records.ensures.1) both.1 in cc)
          ]) same),
    )

pub returns : goal.returns
returns c =
    let end = agree-end c.args.calls.now c.args.group.now c.loop-call.call-index c.loop-call.at c.loop-call-test.false c.loop-call.invariant.same c.loop-call.invariant.within in
    (λ h. end.0 (sym (eqb-true c.loop-call.at (length c.args.group.now) h)), λ same. eq-eqb c.loop-call.at (length c.args.group.now) (sym (end.1 same)))

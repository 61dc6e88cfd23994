use Rattle.std.proofs.Common.{refl, sym, ◌∙◌}
use Rattle.std.proofs.lemmas.Option.{slice_get_read}
use Rattle.er_settle.proofs.ListLemmas.{rises-skip, rises-more, rises-not, all_taken}
use Rattle.er_settle.proofs.seat_checks.calls_rise.Goals as goal

pub returns-then-not-is_above : goal.returns-then-not-is_above
returns-then-not-is_above c =
    (λ t. cc, λ up. absurd (rises-not c.args.calls.now c.loop-call.call-index c.call-item.result c.loop-call.last c.in-Some.ticket c.loop-call.invariant.last (slice_get_read c.args.calls.now _ _ c.call-item.result refl c.loop-call-test.true c.call-item.is) (sym c.ticket.ensures ∙ c.in-Some.is) (λ a. let e = c.if-not-is_above.ensures.1 a in cc) up))

pub loop-call-preserved : goal.loop-call-preserved
loop-call-preserved c =
    let r = rises-more c.args.calls.now c.loop-call.call-index c.call-item.result c.loop-call.last c.in-Some.ticket c.loop-call.invariant.rise c.loop-call.invariant.last (slice_get_read c.args.calls.now _ _ c.call-item.result refl c.loop-call-test.true c.call-item.is) (sym c.ticket.ensures ∙ c.in-Some.is) (c.if-not-is_above.ensures.0 refl) in
    record { rise = r.0; last = r.1 }

pub returns : goal.returns
returns c = (λ t. rw (all_taken c.args.calls.now c.loop-call.call-index c.loop-call-test.false) at c.loop-call.invariant.rise, λ up. refl)

pub loop-call-preserved-in_default : goal.loop-call-preserved-in_default
loop-call-preserved-in_default c =
    let r = rises-skip c.args.calls.now c.loop-call.call-index c.call-item.result c.loop-call.last c.loop-call.invariant.rise c.loop-call.invariant.last (slice_get_read c.args.calls.now _ _ c.call-item.result refl c.loop-call-test.true c.call-item.is) (sym c.ticket.ensures ∙ c.in_default.is) in
    record { rise = r.0; last = r.1 }

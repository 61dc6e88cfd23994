-- Each page adds its call, and the first that is refused leaves what the pages before it did.
use Rattle.std.proofs.Common.{◌≡◌, ◌<◌, ◌==◌, false, refl, ap, sym, subst, arith}
use Rattle.er_event.specs.declared.addresses.PageRange.{PageRange}
use Rattle.er_event.specs.Span.{page_count, part_of, parts_below}
use Rattle.er_settle.specs.Seats.{SeatList}
use Rattle.er_detector.specs.Calls.{HasReused, IsReused}
use Rattle.er_detector.proofs.Reusing.{reused-none, reused-more, reused-name}
use Rattle.er_detector.proofs.detector.Detector.reuse.Goals as goal

pub loop-page-init : goal.loop-page-init
loop-page-init g c = (reused-none c.args.seat.now c.args.range.now, λ foreign. refl)

pub returns-in-Err-clause-stopped : goal.returns-in-Err-clause-stopped
unfolding part_of
returns-in-Err-clause-stopped g c =
    let within : c.loop-page.page < page_count c.args.range.now = omega arith in (
      c.loop-page.page,
      (
        within,
        (
          ap (λ (part : PageRange). part.lo) c.part-part.ensures.value,
          subst (λ (seat : SeatList). HasReused c.args.seat.now seat (parts_below c.args.range.now c.loop-page.page)) (sym c.in-Err.ensures.err) c.loop-page.invariant.0,
        ),
      ),
    )

pub loop-page-preserved : goal.loop-page-preserved
loop-page-preserved g c =
    let far = c.loop-page.invariant.0 in
    let done = c.in_default.ensures.done in
    let reused = subst (λ (part : PageRange). IsReused c.loop-page.seat c.reuse_part.new.seat part done.0) c.part-part.ensures.value done.1 in (
      reused-more c.args.seat.now c.loop-page.seat c.reuse_part.new.seat c.args.range.now c.loop-page.page done.0 far reused,
      λ foreign. absurd (c.in_default.not-Err _ (c.reuse_part.ensures.foreign
          (subst (λ name. (name == c.args.self.now.name) ≡ false) (sym (reused-name _ _ _ far)) foreign))),
    )

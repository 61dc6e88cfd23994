use Rattle.std.proofs.Common.{◌≡◌}
use Rattle.std.specs.Prelude.{IsFalse}
use Rattle.er_event.specs.Span.{parts_below}
use Rattle.er_detector.specs.Calls.{is_seat_of, HasReused}
use Rattle.er_detector.proofs.detector.Detector.reuse.Given as goal

-- the pages so far are done, and a foreign seat's reuse is at its first page
abbrev pub invariant-loop-page : goal.invariant-loop-page
invariant-loop-page g l = HasReused l.fn.seat l.seat (parts_below l.range l.page) × (IsFalse (is_seat_of l.fn.self l.fn.seat) → l.page ≡ 0)

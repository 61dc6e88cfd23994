-- The steps of the pages so far were added.
use Rattle.std.proofs.Common.{◌≡◌}
use Rattle.er_event.specs.Span.{parts_below}
use Rattle.er_text.specs.Events.{with_reuses}
use Rattle.er_text.proofs.adding.add_reuse.Given as goal

abbrev pub invariant-loop-i : goal.invariant-loop-i
invariant-loop-i l = l.trace ≡ with_reuses l.fn.trace l.line l.thread l.site (parts_below l.range l.i)

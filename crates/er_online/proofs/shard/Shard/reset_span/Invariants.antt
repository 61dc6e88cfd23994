use Rattle.std.proofs.Common.{◌≡◌, ◌++◌}
use Rattle.er_event.specs.Span.{parts_below}
use Rattle.er_online.specs.Spans.{resets}
use Rattle.er_online.proofs.shard.Shard.reset_span.Given as goal

-- the pages so far are reused
abbrev pub invariant-loop-page : goal.invariant-loop-page
invariant-loop-page l = l.self ≡ l.fn.self ++ resets (parts_below l.fn.words l.page)

use Rattle.std.proofs.Common.{◌≡◌}
use Rattle.er_model.specs.Holdings.{holdings_at}
use Rattle.er_story.proofs.telling.held_before.Given as goal

abbrev pub invariant-loop-at : goal.invariant-loop-at
invariant-loop-at l = l.held ≡ holdings_at l.steps l.thread l.at

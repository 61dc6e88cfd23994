use Rattle.std.proofs.Common.{◌≡◌}
use Rattle.er_explain.specs.Following.{AreHeldAt}
use Rattle.er_story.specs.Inner.Past.{past_at}
use Rattle.er_story.proofs.past.past_of.Given as goal

abbrev pub invariant-loop-at : goal.invariant-loop-at
invariant-loop-at l = AreHeldAt l.trace.steps l.locks l.at × (l.past ≡ past_at l.trace l.word l.at)

-- The last turn ends the pass, with the limit that it began with.
use Rattle.std.proofs.Common.{ℕ, subst}
use Rattle.er_places.specs.Inner.Following.{HasEnded, is_wanted}
use Rattle.er_places.proofs.finding.Finder.run.Goals as goal

pub returns-clause-ended : goal.returns-clause-ended
returns-clause-ended g c = λ told come.
    subst (λ (limit : ℕ). HasEnded (is_wanted c.args.wanted.now.keys) told limit c.turn.new.self.trace c.turn.new.self.follower) c.loop.invariant.limit
    (c.in_ok-turn.ensures.ended told (c.loop.invariant.come told come) c.if-branch.false)

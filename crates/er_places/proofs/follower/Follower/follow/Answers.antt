use Rattle.std.proofs.Common.{◌<◌, ◌∙◌, length, ap, sym, arith}
use Rattle.er_places.proofs.PlaceLemmas.{stands-more}
use Rattle.er_places.specs.Wanted.{is_wanted}
use Rattle.er_places.proofs.follower.Follower.follow.Goals as goal

pub loop-k-preserved : goal.loop-k-preserved
loop-k-preserved c = λ past numbers even stands.
    let below : c.loop-k.k < length c.steps-steps.result.now = omega arith in
    stands-more (is_wanted c.args.wanted.now.keys) c.loop-k.self c.follow_step.new.self past c.steps-steps.result.now numbers c.lines-lines.result.now c.loop-k.k c.index-steps-k.result even
    (ap length c.lines-lines.ensures.value ∙ c.lines-lines.ensures.one_per_step ∙ ap length (sym c.steps-steps.ensures.value)) below c.index-steps-k.is
    (c.loop-k.invariant past numbers even stands) c.in_ok-follow_step.ensures

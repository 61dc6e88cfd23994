use Rattle.std.proofs.Common.{◌<◌, length, arith}
use Rattle.er_damage.proofs.StandLemmas.{stands-more}
use Rattle.er_damage.proofs.inspector.Inspector.follow.Goals as goal

pub loop-k-preserved : goal.loop-k-preserved
loop-k-preserved c = λ past numbers even stands.
    let below : c.loop-k.k < length c.args.steps.now = omega arith in
    stands-more c.loop-k.self c.follow_step.new.self past c.args.steps.now numbers c.args.lines.now c.loop-k.k c.index-steps-k.result even c.requires below c.index-steps-k.is
    (c.loop-k.invariant past numbers even stands) c.in_ok-follow_step.ensures

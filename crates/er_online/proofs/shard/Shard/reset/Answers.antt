use Rattle.std.proofs.Common.{refl}
use Rattle.er_online.specs.declared.calls.ShardCall.TheVariants.{Reset}
use Rattle.er_online.proofs.Growing.{replay-grows}
use Rattle.er_online.proofs.shard.Shard.reset.Goals as goal

pub invariant_of-self : goal.invariant_of-self
invariant_of-self c = replay-grows c.self.inside.history.calls _ _ _ (Reset c.args.range) _ c.self.invariant c.and-self-inside.ensures refl c.reset.ensures

use Rattle.er_online.proofs.Growing.{replay-starts}
use Rattle.er_online.proofs.shard.Shard.new.Goals as goal

pub invariant_of-result : goal.invariant_of-result
invariant_of-result c = replay-starts _ _ c.new-2.ensures c.in_ok-new.ensures

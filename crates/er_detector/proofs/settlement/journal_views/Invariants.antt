use Rattle.std.proofs.Common.{◌≡◌, take}
use Rattle.er_detector.specs.Settlement.{journals_of}
use Rattle.er_detector.proofs.settlement.journal_views.Given as goal

abbrev pub invariant-loop-shard : goal.invariant-loop-shard
invariant-loop-shard l = l.views.items ≡ journals_of (take l.shard-index l.shards)

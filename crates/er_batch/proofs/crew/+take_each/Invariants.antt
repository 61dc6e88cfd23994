use Rattle.std.proofs.Common.{length}
use Rattle.er_batch.proofs.crew.+take_each.Given as goal

abbrev pub decreases-take_each : goal.decreases-take_each
decreases-take_each g l = length l.chunks.now

use Rattle.std.proofs.Common.{length}
use Rattle.er_batch.proofs.passes.+keep_chunks.Given as goal

abbrev pub decreases-keep_chunks : goal.decreases-keep_chunks
decreases-keep_chunks l = length l.chunks.now

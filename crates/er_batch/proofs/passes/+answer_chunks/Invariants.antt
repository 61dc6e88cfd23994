use Rattle.std.proofs.Common.{length}
use Rattle.er_batch.proofs.passes.+answer_chunks.Given as goal

abbrev pub decreases-answer_chunks : goal.decreases-answer_chunks
decreases-answer_chunks g l = length l.chunks.now

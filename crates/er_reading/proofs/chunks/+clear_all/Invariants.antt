use Rattle.std.proofs.Common.{length}
use Rattle.er_reading.proofs.chunks.+clear_all.Given as goal

abbrev pub decreases-clear_all : goal.decreases-clear_all
decreases-clear_all l = length l.chunks.now

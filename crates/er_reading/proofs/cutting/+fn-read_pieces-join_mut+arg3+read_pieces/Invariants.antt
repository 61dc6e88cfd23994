use Rattle.std.proofs.Common.{length}
use Rattle.er_reading.proofs.cutting.+fn-read_pieces-join_mut+arg3+read_pieces.Given as goal

abbrev pub decreases-join_mut+arg3 : goal.decreases-join_mut+arg3
decreases-join_mut+arg3 g l = length l.others.now

abbrev pub decreases-read_pieces : goal.decreases-read_pieces
decreases-read_pieces g l = length l.pieces.now

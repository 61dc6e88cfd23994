use Rattle.std.proofs.Common.{length}
use Rattle.er_reading.proofs.cutting.+fn-number_pieces-join_mut+arg3+number_pieces.Given as goal

abbrev pub decreases-join_mut+arg3 : goal.decreases-join_mut+arg3
decreases-join_mut+arg3 g l = length l.others.now

abbrev pub decreases-number_pieces : goal.decreases-number_pieces
decreases-number_pieces g l = length l.pieces.now

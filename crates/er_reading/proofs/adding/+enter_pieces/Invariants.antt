use Rattle.std.proofs.Common.{length}
use Rattle.er_reading.proofs.adding.+enter_pieces.Given as goal

abbrev pub decreases-enter_pieces : goal.decreases-enter_pieces
decreases-enter_pieces l = length l.pieces.now

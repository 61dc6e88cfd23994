use Rattle.std.proofs.Common.{length}
use Rattle.er_reading.proofs.adding.+add_numbered.Given as goal

abbrev pub decreases-add_numbered : goal.decreases-add_numbered
decreases-add_numbered l = length l.pieces.now

-- The texts that were read make the report whose pages and counts the replay has.
use Rattle.std.proofs.Common.{inr}
use Rattle.eraser.proofs.merging.merge_for.Goals as goal

pub returns-clause-merged : goal.returns-clause-merged
returns-clause-merged g c = inr (_, c.in_ok-merged.merged, c.in_ok-merged.ensures, c.take_merged.ensures.made.0, c.take_merged.ensures.made.1)

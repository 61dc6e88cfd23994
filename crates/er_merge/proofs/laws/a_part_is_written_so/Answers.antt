use Rattle.er_merge.proofs.HeadingLemmas.{part_written}
use Rattle.er_merge.proofs.laws.a_part_is_written_so.Goals as goal

pub returns : goal.returns
returns c = part_written

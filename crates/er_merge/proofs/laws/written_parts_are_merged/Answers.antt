use Rattle.er_merge.proofs.WrittenLemmas.{written_merged}
use Rattle.er_merge.proofs.laws.written_parts_are_merged.Goals as goal

pub returns : goal.returns
returns c = λ d limit heading parts result trace counted is some same merges. written_merged d limit heading parts trace counted is some same result merges

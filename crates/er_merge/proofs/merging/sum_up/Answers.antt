use Rattle.er_merge.proofs.MergeLemmas.{sums_fail}
use Rattle.er_merge.proofs.merging.sum_up.Goals as goal

pub returns-in-Err : goal.returns-in-Err
returns-in-Err c = sums_fail c.args.parts.now c.in-Err.fault c.requires.like c.requires.each c.in-Err.ensures

use Rattle.er_merge.proofs.MergeLemmas.{merged_so}
use Rattle.er_merge.proofs.merging.merge_with.Goals as goal

pub returns-in-Ok : goal.returns-in-Ok
returns-in-Ok c = merged_so c.args.parts.now _ c.requires.like c.requires.each c.requires.end c.in-Ok.ensures

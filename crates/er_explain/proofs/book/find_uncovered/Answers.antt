use Rattle.std.proofs.Common.{arith}
use Rattle.std.proofs.lemmas.List.Edits.{map_over_more}
use Rattle.er_explain.specs.Books.{pair_after}
use Rattle.er_explain.proofs.book.find_uncovered.Goals as goal

pub loop-i-preserved : goal.loop-i-preserved
loop-i-preserved g c =
    rw c.pair_after.ensures
    (map_over_more (pair_after c.args.access c.args.cover.now) c.args.pairs.now c.loop-i.pairs c.loop-i.i c.index-pairs-i.result
    (omega arith) c.loop-i.invariant c.index-pairs-i.is)

use Rattle.std.proofs.Common.{refl, arith}
use Rattle.er_clock.proofs.Parts.{one_more_part}
use Rattle.er_clock.proofs.rows.cover.Goals as goal

pub loop-at-preserved : goal.loop-at-preserved
loop-at-preserved g c =
    one_more_part g.P.Part.counts c.loop-at.at c.index-parts-at.result c.index-others-at.result c.args.parts.now c.args.others.now (omega arith) (omega arith)
    c.index-parts-at.is c.index-others-at.is (c.if-not-covers.ensures refl) c.loop-at.invariant

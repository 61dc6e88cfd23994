use Rattle.std.proofs.Common.{arith}
use Rattle.er_clock.proofs.Parts.{one_more_covered, past_covered}
use Rattle.er_clock.proofs.block.Block.covers.Goals as goal

pub loop-place-init : goal.loop-place-init
loop-place-init c = λ covered u low. absurd (omega (arith, low))

pub loop-place-preserved : goal.loop-place-preserved
loop-place-preserved c =
    one_more_covered c.index.result.now c.index-in-loop-place.result.now c.loop-place.place c.loop-place.covered c.other.inside.counts.items c.self.inside.counts.items
    c.index.ensures c.index-in-loop-place.ensures (omega arith) (omega arith) c.loop-place.invariant

pub returns : goal.returns
returns c =
    rw (← c.self.view_is, ← c.other.view_is)
    (λ all. past_covered c.loop-place.place c.other.inside.counts.items c.self.inside.counts.items (omega arith) (c.loop-place.invariant all))

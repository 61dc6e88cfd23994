use Rattle.std.proofs.Common.{◌≡◌, max, arith}
use Rattle.er_clock.proofs.Parts.{one_more_within, all_within}
use Rattle.er_clock.proofs.block.Block.bounds.Goals as goal

pub loop-place-init : goal.loop-place-init
loop-place-init c = λ u low. absurd (omega (arith, low))

pub loop-place-preserved : goal.loop-place-preserved
loop-place-preserved c =
    let least = c.min-low.ensures in
    let most : c.max-high.result ≡ max c.loop-place.high c.index-count.result.now = c.max-high.ensures in
    one_more_within c.index-count.result.now c.loop-place.place c.loop-place.low c.loop-place.high c.min-low.result c.max-high.result c.self.inside.counts.items
    c.index-count.ensures (omega arith) (omega (arith, least)) (omega (arith, least)) (omega (arith, most)) (omega (arith, most)) c.loop-place.invariant

pub returns : goal.returns
returns c = rw (← c.self.view_is) (all_within c.loop-place.place c.loop-place.low c.loop-place.high c.self.inside.counts.items (omega arith) c.loop-place.invariant)

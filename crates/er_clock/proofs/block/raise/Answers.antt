use Rattle.std.proofs.Common.{◌≡◌, ◌∙◌, ◌+◌, length, refl, arith}
use Rattle.er_clock.specs.Inner.Merging.{merged_below}
use Rattle.er_clock.proofs.ClockLemmas.{merged_all, place_taken}
use Rattle.er_clock.proofs.block.raise.Goals as goal

pub loop-place-init : goal.loop-place-init
unfolding merged_below
loop-place-init c = refl

pub loop-place-preserved : goal.loop-place-preserved
loop-place-preserved c =
    place_taken c.loop-place.place (c.loop-place.place + 1) c.index.result.now c.index-in-loop-place.result.now c.max.result c.loop-place.counts.items c.args.counts.now.items c.args.others.now.items
    c.loop-place.invariant (omega arith) c.requires (omega arith) c.index.ensures c.index-in-loop-place.ensures c.max.ensures

pub returns : goal.returns
returns c =
    let done : c.loop-place.place ≡ length c.args.others.now.items = omega arith in
    c.loop-place.invariant ∙ rw done (merged_all c.args.counts.now.items c.args.others.now.items c.requires)

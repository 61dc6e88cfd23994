use Rattle.std.proofs.Common.{◌≡◌, ◌<◌, ◌∙◌, ◌+◌, ap, ap₂, length, get_or, set, arith}
use Rattle.er_clock.proofs.ClockLemmas.{padded_place, padded_count, ticked_place}
use Rattle.er_clock.proofs.block.Block.tick.Goals as goal

pub index_mut-requires : goal.index_mut-requires
index_mut-requires c =
    let low : c.args.place < length c.reach.new.counts.items = rw c.in_ok-reach.ensures.ok (padded_place c.args.place c.self.inside.counts.items) in
    omega arith

pub overflow_add-index_mut : goal.overflow_add-index_mut
overflow_add-index_mut c =
    let at : get_or c.reach.new.counts.items c.args.place c.index_mut.result.now ≡ get_or c.self.inside.counts.items c.args.place 0 =
    rw c.in_ok-reach.ensures.ok (padded_count c.args.place c.index_mut.result.now c.self.inside.counts.items) in
    let here : c.index_mut.result.now ≡ get_or c.args.self.now c.args.place 0 = c.index_mut.ensures.value ∙ at ∙ ap (λ xs. get_or xs c.args.place 0) c.self.view_is in
    let room = c.requires.room in
    omega (arith, here, room)

pub returns-clause-ok : goal.returns-clause-ok
returns-clause-ok c =
    let at : get_or c.reach.new.counts.items c.args.place c.index_mut.result.now ≡ get_or c.self.inside.counts.items c.args.place 0 =
    rw c.in_ok-reach.ensures.ok (padded_count c.args.place c.index_mut.result.now c.self.inside.counts.items) in
    ap₂ (λ xs x. set xs c.args.place (x + 1)) c.in_ok-reach.ensures.ok (c.index_mut.ensures.value ∙ at)
    ∙ rw (← c.self.view_is) (ticked_place c.args.place c.self.inside.counts.items)

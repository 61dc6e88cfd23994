-- Each handle adds its journal, or stops the list.
use Rattle.std.proofs.Common.{refl, sym, inr}
use Rattle.std.proofs.lemmas.Option.{slice_get_read}
use Rattle.eraser_c.specs.Settlements.{journal_in}
use Rattle.eraser_c.proofs.SettlementLemmas.{each-none, each-next, each-stop, told_err}
use Rattle.eraser_c.proofs.settlement.journal_views.Goals as goal

pub loop-shard-init : goal.loop-shard-init
loop-shard-init c = each-none (journal_in c.args.name) _ c.new-views.ensures.items

pub loop-shard-preserved : goal.loop-shard-preserved
loop-shard-preserved c =
    let here = slice_get_read c.args.shards.now _ _ c.shard-item.result refl c.loop-shard-test.true c.shard-item.is in
    each-next (journal_in c.args.name) (λ boxed. boxed.value) c.args.shards.now c.loop-shard.shard-index c.shard-item.result here c.loop-shard.views.items c.push.new.self.items c.in_ok-view.view
    c.loop-shard.invariant (sym c.in_ok-view.ensures) c.in-Ok.ensures.items

pub returns-in_err-view-clause-err : goal.returns-in_err-view-clause-err
returns-in_err-view-clause-err c =
    let here = slice_get_read c.args.shards.now _ _ c.shard-item.result refl c.loop-shard-test.true c.shard-item.is in
    told_err c.from_residual.result c.in_err-view.field-0.0 _ c.from_residual.ensures.1
    (inr (each-stop (journal_in c.args.name) (λ boxed. boxed.value) c.args.shards.now c.loop-shard.shard-index c.shard-item.result here c.loop-shard.views.items _ c.loop-shard.invariant (sym c.in_err-view.ensures)))

use Rattle.std.proofs.Common.{List, subst, sym, ◌∙◌}
use Rattle.er_parallel.specs.Inner.Gathering.{AreRightBut}
use Rattle.er_parallel.specs.Usual.{usual_answers}
use Rattle.er_parallel.specs.declared.worker.Unusual.{Unusual}
use Rattle.er_parallel.proofs.GatheringLemmas.{item-within, right-all, right-next, right-usual}
use Rattle.er_parallel.proofs.replay.gather.Goals as goal

pub loop-item-init : goal.loop-item-init
loop-item-init c = rw c.in_ok-given.ensures
    (subst (λ (items : List Unusual). AreRightBut c.args.steps.now (usual_answers c.args.steps.now) items) (sym c.into_iter-item-iterator.ensures.into_iter_gives.0) (right-usual c.args.steps.now c.args.unusual.items c.requires))

pub set-requires : goal.set-requires
set-requires c = item-within c.args.steps.now c.loop-item.given c.in-Some.item _ (rw c.in-Some.ensures.steps.0 at c.loop-item.invariant)

pub loop-item-preserved-in_ok-set : goal.loop-item-preserved-in_ok-set
loop-item-preserved-in_ok-set c =
    right-next c.args.steps.now c.loop-item.given c.set.new.self c.in-Some.item _ (rw c.in-Some.ensures.steps.0 at c.loop-item.invariant) c.in_ok-set.ensures.ok

pub loop-item-preserved : goal.loop-item-preserved
loop-item-preserved c =
    right-next c.args.steps.now c.loop-item.given c.set.new.self c.in-Some.item _ (rw c.in-Some.ensures.steps.0 at c.loop-item.invariant) c.in_ok-set.ensures.ok

pub returns : goal.returns
returns c = right-all c.args.steps.now c.loop-item.given _ (sym c.loop-item.item-iterator.rest.ok.0 ∙ c.in-None.ensures.steps.0) c.loop-item.invariant

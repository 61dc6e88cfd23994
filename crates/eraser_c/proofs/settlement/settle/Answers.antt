-- What is settled is what the handles led to.
use Rattle.std.proofs.Common.{◌∙◌, ap}
use Rattle.eraser_c.specs.Settlements.{all_behind}
use Rattle.eraser_c.proofs.SettlementLemmas.{told-of}
use Rattle.eraser_c.proofs.settlement.settle.Goals as goal

pub returns-clause-told : goal.returns-clause-told
returns-clause-told c =
    told-of c.args.name c.args.opened _ _ _ _ c.settle_kept-told.result c.settle_kept-told.ensures
    (ap (all_behind (λ boxed. boxed.value)) c.as_slice-journals.ensures.value ∙ c.in-Ok.ensures.taken)
    (ap (all_behind (λ boxed. boxed.value)) c.as_slice-lists.ensures.value ∙ c.in-Ok-take_all.ensures.taken)

use Rattle.std.proofs.Common.{◌∙◌, max, get_or, ap, ap₂}
use Rattle.er_order.proofs.ClockLists.{get-merged}
use Rattle.er_clock.proofs.Parts.{if_ok}
use Rattle.er_clock.proofs.block.SharedPart.joined.Goals as goal

pub returns : goal.returns
returns c =
    if_ok c.new.result _ _ c.new.ensures (λ shared is u.
    ap (λ xs. get_or xs u 0) (is ∙ c.in_ok-join.ensures.ok) ∙ get-merged c.in_ok-block.block c.block-2.result.now u
    ∙ ap₂ (λ xs ys. max (get_or xs u 0) (get_or ys u 0)) (c.in_ok-block.ensures ∙ c.block.ensures) c.block-2.ensures)

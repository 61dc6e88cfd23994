use Rattle.std.proofs.Common.{◌∙◌, ◌+◌, ◌==◌, cond, ap}
use Rattle.er_clock.specs.Clock.{count_in_block}
use Rattle.er_clock.proofs.Parts.{get-ticked, if_ok}
use Rattle.er_clock.proofs.block.SharedPart.ticked.Goals as goal

pub returns : goal.returns
returns c =
    if_ok c.new.result _ _ c.new.ensures (λ shared is at.
    ap (λ xs. count_in_block xs at) (is ∙ c.in_ok-tick.ensures.ok) ∙ get-ticked c.args.place at c.in_ok-block.block
    ∙ ap (λ xs. count_in_block xs at + cond (c.args.place == at) 1 0) (c.in_ok-block.ensures ∙ c.block.ensures))

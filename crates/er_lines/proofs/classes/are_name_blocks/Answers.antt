-- Block by block, and then the last one.
use Rattle.std.proofs.Common.{◌-◌, length, arith, rules}
use Rattle.er_lines.proofs.BlockLemmas.{first_blocks, all_blocks}
use Rattle.er_lines.proofs.classes.are_name_blocks.Goals as goal

pub loop-at-init : goal.loop-at-init
loop-at-init c = λ k from to. absurd (omega (arith, to))

pub loop-at-preserved : goal.loop-at-preserved
loop-at-preserved c = first_blocks c.args.bytes.now c.loop-at.at c.loop-at.invariant (c.is_name_block.ensures (search rules))

pub returns : goal.returns
returns c = λ yes. all_blocks c.args.bytes.now c.loop-at.at (length c.args.bytes.now - 16) c.loop-at.invariant (omega (arith, c.loop-at-test.false)) (omega (arith, c.requires)) (c.is_name_block-2.ensures yes)

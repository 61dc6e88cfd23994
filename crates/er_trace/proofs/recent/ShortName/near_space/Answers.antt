use Rattle.std.proofs.Common.{arith, rules}
use Rattle.er_trace.proofs.DigitLemmas.{near_space}
use Rattle.er_trace.proofs.recent.ShortName.near_space.Goals as goal

pub returns-clause-bytes : goal.returns-clause-bytes
returns-clause-bytes c = near_space c.args.bytes.now c.packed_eight-block.result c.space_near-len.result (search rules) (omega (arith, c.if-bytes-lt8.false)) (omega (arith, c.if-len-ge8.false)) (search rules)

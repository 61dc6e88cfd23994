-- The test of std is that of each byte.
use Rattle.er_lines.proofs.ByteLemmas.{ascii_is}
use Rattle.er_lines.proofs.bytes.is_ascii.Goals as goal

pub returns : goal.returns
returns c = ascii_is c.args.bytes.now c.is_ascii.result c.is_ascii.ensures.cases

use Rattle.std.proofs.lemmas.Bool.{eqb-true}
use Rattle.er_lines.proofs.WholeLemmas.{whole_front}
use Rattle.er_lines.proofs.bytes.whole_len.Goals as goal

pub returns-in-Some-clause-whole : goal.returns-in-Some-clause-whole
returns-in-Some-clause-whole c = whole_front c.in-Some.at c.args.bytes.now c.in-Some.ensures.0.high (eqb-true _ _ c.in-Some.ensures.1)

use Rattle.std.proofs.Common.{◌∙◌, rules}
use Rattle.er_journal.proofs.RangeLemmas.{range-given}
use Rattle.er_journal.proofs.calls.range_of.Goals as goal

pub returns : goal.returns
returns c = range-given c.new-2.result c.args.lo c.args.more c.new-2.ensures.first (c.new-2.ensures.last ∙ search rules)

use Rattle.std.proofs.Common.{◌∙◌}
use Rattle.er_clock.proofs.ClockLemmas.{merged_longer, length_longer}
use Rattle.er_clock.proofs.block.Block.join.Goals as goal

pub raise-requires : goal.raise-requires
raise-requires c = rw c.in_ok-lengthen.ensures.ok (length_longer c.self.inside.counts.items c.other.inside.counts.items)

pub returns-clause-ok : goal.returns-clause-ok
returns-clause-ok c =
    c.raise.ensures ∙ rw (c.in_ok-lengthen.ensures.ok, ← c.self.view_is, ← c.other.view_is) (merged_longer c.self.inside.counts.items c.other.inside.counts.items)

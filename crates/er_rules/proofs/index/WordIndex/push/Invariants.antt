use Rattle.er_rules.specs.Targets.{span_of}
use Rattle.er_rules.proofs.IndexLemmas.{Covers}
use Rattle.er_rules.proofs.index.WordIndex.push.Given as goal

abbrev pub invariant-loop-start : goal.invariant-loop-start
invariant-loop-start l = Covers l.self.entries.items (span_of l.words) l.start l.reach

abbrev pub decreases-loop-start : goal.decreases-loop-start
decreases-loop-start l = l.start

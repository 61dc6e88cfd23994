use Rattle.std.proofs.Common.{◌≡◌, length}
use Rattle.er_rules.specs.Patterns.{pattern_takes, takes_end}
use Rattle.er_rules.proofs.patterns.takes_end.Given as goal

abbrev pub invariant-loop-more : goal.invariant-loop-more
invariant-loop-more l = takes_end (pattern_takes l.fn.pattern) l.fn.name ≡ takes_end (pattern_takes l.rest) l.left

abbrev pub decreases-loop-more : goal.decreases-loop-more
decreases-loop-more l = length l.rest

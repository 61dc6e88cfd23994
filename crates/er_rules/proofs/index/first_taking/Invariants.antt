use Rattle.std.proofs.Common.{◌≡◌, take, None, Some}
use Rattle.er_rules.specs.Inner.Index.{first_taking}
use Rattle.er_rules.proofs.index.first_taking.Given as goal

abbrev pub invariant-loop-pattern : goal.invariant-loop-pattern
invariant-loop-pattern l = first_taking (take l.pattern-index l.patterns) (Some l.name) ≡ None

use Rattle.std.proofs.Common.{◌≡◌, ◌++◌, map, take}
use Rattle.er_rules.specs.Rules.{target_of, targets_of}
use Rattle.er_triage.proofs.known.append_rules.Given as goal

abbrev pub invariant-loop-rule : goal.invariant-loop-rule
invariant-loop-rule l = targets_of l.rules ≡ targets_of l.fn.rules ++ map target_of (take l.rule-index l.others.rules.items)

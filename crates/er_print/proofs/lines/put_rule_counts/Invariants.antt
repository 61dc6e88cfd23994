-- The lines that are there, and those of the rules to come, are the whole.
use Rattle.std.proofs.Common.{◌≡◌, ◌+◌, ◌++◌, drop}
use Rattle.er_print.specs.Printed.{counts_text}
use Rattle.er_print.proofs.lines.put_rule_counts.Given as goal

abbrev pub invariant-loop-k : goal.invariant-loop-k
invariant-loop-k l = l.out.items ++ counts_text (l.k + 1) (drop l.k l.rule_counts) ≡ l.fn.out.items ++ counts_text 1 l.rule_counts

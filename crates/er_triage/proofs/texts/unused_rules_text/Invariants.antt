-- The lines that are there, and those of the rules to come, are the whole.
use Rattle.std.proofs.Common.{◌≡◌, ◌++◌, map, drop}
use Rattle.er_rules.specs.Rules.{target_of, targets_of}
use Rattle.er_triage.specs.Texts.{unused_from}
use Rattle.er_triage.proofs.texts.unused_rules_text.Given as goal

abbrev pub invariant-loop-place : goal.invariant-loop-place
invariant-loop-place l =
    l.text.items ++ unused_from l.place l.reports (map target_of (drop l.place l.suppressions.rules.items)) ≡ unused_from 0 l.reports (targets_of l.suppressions)

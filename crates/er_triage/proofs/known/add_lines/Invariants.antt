use Rattle.std.proofs.Common.{◌≡◌, All, map, take}
use Rattle.er_rules.specs.Rules.{targets_of}
use Rattle.er_triage.specs.Known.{known_target}
use Rattle.er_triage.specs.Sound.{IsSound}
use Rattle.er_triage.specs.Inner.Counting.{with_races}
use Rattle.er_triage.proofs.known.add_lines.Given as goal

abbrev pub invariant-loop-line : goal.invariant-loop-line
invariant-loop-line l = record {
  rules : map (known_target l.names) l.known.items ≡ targets_of l.rules;
  counted : l.known.items ≡ with_races l.names l.fn.known.items (take l.line-index l.lines);
  sound : All (IsSound l.names) l.known.items;
}

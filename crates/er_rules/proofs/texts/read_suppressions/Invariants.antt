use Rattle.std.proofs.Common.{◌≡◌, ◌+◌, ◌-◌, ◌≤◌, [], false}
use Rattle.er_device.specs.Device.{inner_of, has_failed, taken_of}
use Rattle.er_rules.specs.Rules.{targets_of}
use Rattle.er_lines.specs.Lending.{taken_by, lines_from, lines_left}
use Rattle.er_lines.specs.Reading.{Continues}
use Rattle.er_rules.specs.Inner.RuleLines.{add_line}
use Rattle.er_rules.proofs.texts.read_suppressions.Given as goal

abbrev pub invariant-loop-rules : goal.invariant-loop-rules
invariant-loop-rules g l = record {
  goes_on : Continues l.byte_limit add_line (lines_from 1 0 (g.R.Read.remaining (inner_of l.fn.reader))) (lines_left l.lines (g.R.Read.remaining (inner_of l.reader))) (false, []) (l.is_second, targets_of l.rules);
  limit : l.lines.limit ≡ l.byte_limit;
  within : l.lines.start ≤ l.byte_limit;
  working : has_failed l.reader ≡ false;
  taken : taken_of l.reader ≤ taken_of l.fn.reader + taken_by l.lines;
}

abbrev pub decreases-loop-rules : goal.decreases-loop-rules
decreases-loop-rules g l = l.byte_limit + 1 - l.lines.start

use Rattle.std.proofs.Common.{◌≡◌, ◌++◌, take, flat_map}
use Rattle.er_print.specs.Printed.{line_text}
use Rattle.er_report.specs.Lines.{line_view}
use Rattle.er_report.specs.declared.report.Line.{Line}
use Rattle.er_print.proofs.report.put_report.Given as goal

abbrev pub invariant-loop-line : goal.invariant-loop-line
invariant-loop-line l = l.out.items ≡ l.fn.out.items ++ flat_map (λ (line : Line). line_text l.of l.names (line_view line)) (take l.line-index l.report.lines.items)

use Rattle.std.proofs.Common.{◌≡◌, ◌++◌, take, flat_map}
use Rattle.er_report.specs.Lines.{line_view, race_of}
use Rattle.er_report.specs.declared.report.Line.{Line}
use Rattle.er_sites.specs.Text.{reuse_story}
use Rattle.er_sites.proofs.text.put_reuses.Given as goal

abbrev pub invariant-loop-line : goal.invariant-loop-line
invariant-loop-line l = l.out.items ≡ l.fn.out.items ++ flat_map (λ (line : Line). reuse_story l.legend.names.now l.legend.places.now (race_of (line_view line))) (take l.line-index l.lines)

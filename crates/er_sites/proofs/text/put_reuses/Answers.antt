-- One line more.
use Rattle.er_print.proofs.LineLemmas.{one_more}
use Rattle.er_report.specs.Lines.{line_view, race_of}
use Rattle.er_report.specs.declared.report.Line.{Line}
use Rattle.er_sites.specs.Text.{reuse_story}
use Rattle.er_sites.proofs.text.put_reuses.Goals as goal

pub loop-line-preserved : goal.loop-line-preserved
loop-line-preserved c =
    one_more (λ (line : Line). reuse_story c.args.legend.now.names.now c.args.legend.now.places.now (race_of (line_view line))) c.args.lines.now c.loop-line.line-index c.line-item.result c.line-item.result c.args.out.now.items
    c.loop-line.out.items c.put_reuse_story.new.out.items c.loop-line-test.true c.line-item.is c.loop-line.invariant c.in_ok-put_reuse_story.ensures

-- One line more.
use Rattle.er_report.specs.Lines.{line_view, race_of}
use Rattle.er_report.specs.declared.report.Line.{Line}
use Rattle.er_sites.proofs.MentionLemmas.{insert_next}
use Rattle.er_sites.specs.Mentions.{reuse_mentions}
use Rattle.er_sites.proofs.mentions.add_reuses.Goals as goal

pub loop-line-preserved : goal.loop-line-preserved
loop-line-preserved c =
    insert_next (λ (line : Line). reuse_mentions c.args.of c.args.places.now (race_of (line_view line))) c.args.lines.now c.loop-line.line-index c.line-item.result c.line-item.result c.args.numbers.now.keys c.loop-line.numbers.keys
    c.add_reuse.new.numbers.keys c.loop-line-test.true c.line-item.is c.loop-line.invariant c.in_ok-add_reuse.ensures

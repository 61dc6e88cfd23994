use Rattle.std.proofs.Common.{◌≡◌, take, flat_map, nat_eq}
use Rattle.indexmap.specs.IndexSet.{insert_all}
use Rattle.er_report.specs.Lines.{line_view, race_of}
use Rattle.er_report.specs.declared.report.Line.{Line}
use Rattle.er_sites.specs.Mentions.{reuse_mentions}
use Rattle.er_sites.proofs.mentions.add_reuses.Given as goal

abbrev pub invariant-loop-line : goal.invariant-loop-line
invariant-loop-line l = l.numbers.keys ≡ insert_all nat_eq l.fn.numbers.keys (flat_map (λ (line : Line). reuse_mentions l.of l.places (race_of (line_view line))) (take l.line-index l.lines))

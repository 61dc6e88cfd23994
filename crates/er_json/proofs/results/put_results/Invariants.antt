use Rattle.std.proofs.Common.{◌≡◌, ◌++◌, take}
use Rattle.er_json.specs.Document.{rows_text}
use Rattle.er_json.specs.Inner.Sections.{has_none}
use Rattle.er_json.specs.Sarif.{results_below}
use Rattle.er_sites.specs.Counted.{AreCounts}
use Rattle.er_json.proofs.results.put_results.Given as goal

-- the counts are those of the lines so far, whose results are put
abbrev pub invariant-loop-line : goal.invariant-loop-line
invariant-loop-line l = record {
  seen : AreCounts (take l.line-index l.lines) l.seen;
  first : l.is_first ≡ has_none (results_below l.of l.legend.names.now l.legend.places.now l.lines l.line-index);
  text : l.out.items ≡ l.fn.out.items ++ rows_text (results_below l.of l.legend.names.now l.legend.places.now l.lines l.line-index);
}

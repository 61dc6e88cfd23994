use Rattle.std.proofs.Common.{◌≡◌, ◌++◌, take, flat_map, map}
use Rattle.er_json.specs.Document.{rows_text}
use Rattle.er_json.specs.Inner.Sections.{has_none, rows_in}
use Rattle.er_report.specs.Lines.{line_view}
use Rattle.er_json.proofs.document.put_rows.Given as goal

abbrev pub invariant-loop-line : goal.invariant-loop-line
invariant-loop-line l = record {
  first : l.is_first ≡ has_none (flat_map (rows_in l.of l.legend.names.now l.legend.places.now) (map line_view (take l.line-index l.lines)));
  text : l.out.items ≡ l.fn.out.items ++ rows_text (flat_map (rows_in l.of l.legend.names.now l.legend.places.now) (map line_view (take l.line-index l.lines)));
}

-- The heading, the rows, their examples and an empty line, if there is a row.
use Rattle.std.proofs.Common.{◌≡◌, ◌==◌, ◌∙◌, ◌++◌, ℕ, List, [], ◌∷◌, length, codes, false, flat_map, slice_get, refl, ap}
use Rattle.std.proofs.lemmas.Result.{on_ok_weaker}
use Rattle.er_places.specs.Places.{PlaceTable}
use Rattle.er_report.specs.declared.report.Line.{Line}
use Rattle.er_sites.proofs.PutLemmas.{appended}
use Rattle.er_sites.proofs.RowLemmas.{put_four}
use Rattle.er_sites.specs.Text.{example_of, row_text, rows_text}
use Rattle.er_sites.specs.declared.row.SiteRow.{SiteRow}
use Rattle.er_trace.specs.Names.{NameTable}
use Rattle.er_sites.proofs.text.put_rows.Goals as goal

some_rows : (names : NameTable) (table : PlaceTable) (lines : List Line) (rows : List SiteRow) → false ≡ (length rows == 0)
    → codes "words     kinds       threads   locks     site\n" ++ flat_map (row_text names) rows
    ++ flat_map (λ (row : SiteRow). example_of names table (slice_get lines row.example)) rows ++ codes "\n" ≡ rows_text names table lines rows
some_rows names table lines [] some = absurd (cc)
some_rows names table lines (row ∷ rows) some = refl

pub returns : goal.returns
returns c =
    let old : List ℕ = c.args.out.now.items in
    on_ok_weaker c.extend_from_slice-2.result
    (λ put. put_four old _ _ _ _ _ _ _ _ c.in_ok-extend_from_slice.ensures.items c.in_ok-put_table.ensures c.in_ok-put_examples.ensures put
    ∙ ap (λ (text : List ℕ). old ++ text) (some_rows c.args.legend.now.names.now c.args.legend.now.places.now c.args.lines.now c.args.rows.now c.if-is_empty.ensures))
    (appended c.extend_from_slice-2.result c.put_examples.new.out.items c.extend_from_slice-2.new.self.items (codes "\n") c.extend_from_slice-2.ensures.items)

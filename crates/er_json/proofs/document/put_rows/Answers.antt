-- The next line adds its object, if the list has one.
use Rattle.std.proofs.Common.{◌≡◌, ◌∙◌, ℕ, Bool, false, cond, List, [], ◌∷◌, ◌++◌, take, flat_map, map, refl, sym, ap}
use Rattle.std.proofs.lemmas.List.{append-nil}
use Rattle.er_json.proofs.PutLemmas.{put_two}
use Rattle.er_json.proofs.RowLemmas.{rows_next, text_next}
use Rattle.er_json.specs.Document.{row_text, rows_text}
use Rattle.er_json.specs.Inner.Sections.{has_none, next_text, rows_in}
use Rattle.er_places.specs.Places.{PlaceTable}
use Rattle.er_report.specs.Lines.{LineView, line_view}
use Rattle.er_report.specs.declared.report.Line.{Line}
use Rattle.er_trace.specs.Names.{NameTable}
use Rattle.er_json.proofs.document.put_rows.Goals as goal
use Rattle.er_json.proofs.document.put_rows.Goals.{then-is_in+in_ok-put_separator+in_ok-put_row, else-is_in}

one_at_least : (rows : List (List ℕ)) (row : List ℕ) → false ≡ has_none (rows ++ row ∷ [])
one_at_least [] row = refl
one_at_least (first ∷ rows) row = refl

pub loop-line-preserved : goal.loop-line-preserved
loop-line-preserved c =
    let names : NameTable = c.args.legend.now.names.now in
    let table : PlaceTable = c.args.legend.now.places.now in
    let lines : List Line = c.args.lines.now in
    let k : ℕ = c.loop-line.line-index in
    let rows : List (List ℕ) = flat_map (rows_in c.args.of names table) (map line_view (take k lines)) in
    let view : LineView = line_view c.line-item.result in
    let row : List ℕ = row_text names table view in
    let here : List (List ℕ) = rows_in c.args.of names table view in
    let before : List ℕ = c.loop-line.out.items in
    let next = rows_next c.args.of names table lines k c.line-item.result c.loop-line-test.true c.line-item.is in
    let is_none : here ≡ [] → has_none rows ≡ has_none (rows ++ here) = λ none. ap has_none (sym (append-nil rows)) ∙ ap (λ (more : List (List ℕ)). has_none (rows ++ more)) (sym none) in
    elim c.if-is_in.branch [
      | then-is_in+in_ok-put_separator+in_ok-put_row w ↦
          let one : here ≡ row ∷ [] = ap (λ (b : Bool). cond b (row ∷ []) []) (sym c.is_in.ensures ∙ w.if-is_in.true) in
          record {
            first = w.is_first-is ∙ one_at_least rows row ∙ ap (λ (more : List (List ℕ)). has_none (rows ++ more)) (sym one) ∙ ap has_none (sym next);
            text = text_next c.args.of names table view rows c.args.out.now.items before _ c.loop-line.is_first c.loop-line.invariant.first c.loop-line.invariant.text
                (ap (λ v. v.items) w.out-is ∙ put_two before _ _ _ _ w.in_ok-put_separator.ensures w.in_ok-put_row.ensures ∙ ap (λ (more : List (List ℕ)). before ++ next_text c.loop-line.is_first more) (sym one))
                ∙ ap (λ (all : List (List ℕ)). c.args.out.now.items ++ rows_text all) (sym next);
          }
      | else-is_in w ↦
          let none : here ≡ [] = ap (λ (b : Bool). cond b (row ∷ []) []) (sym c.is_in.ensures ∙ w.if-is_in.false) in
          record {
            first = w.is_first-is ∙ c.loop-line.invariant.first ∙ is_none none ∙ ap has_none (sym next);
            text = text_next c.args.of names table view rows c.args.out.now.items before _ c.loop-line.is_first c.loop-line.invariant.first c.loop-line.invariant.text
                (ap (λ v. v.items) w.out-is ∙ sym (append-nil before) ∙ ap (λ (more : List (List ℕ)). before ++ next_text c.loop-line.is_first more) (sym none))
                ∙ ap (λ (all : List (List ℕ)). c.args.out.now.items ++ rows_text all) (sym next);
          }
    ]

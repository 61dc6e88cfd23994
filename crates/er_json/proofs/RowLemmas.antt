-- The rows of a list, line by line.
use Rattle.std.proofs.Common.{◌≡◌, ◌∙◌, ◌+◌, ◌<◌, ◌&&◌, ℕ, Bool, true, false, cond, List, [], ◌∷◌, ◌++◌, length, take, get_or, flat_map, map, refl, sym, ap, append_assoc}
use Rattle.std.proofs.lemmas.List.{append-nil, map-append, take_more}
use Rattle.std.proofs.lemmas.Grind.{flat_map-append}
use Rattle.er_json.specs.Document.{row_text, rows_text}
use Rattle.er_json.specs.Inner.Sections.{has_none, is_in, next_text, rows_in, separator_text}
use Rattle.er_json.specs.declared.document.Section.{Section}
use Rattle.er_places.specs.Places.{PlaceTable}
use Rattle.er_report.specs.Lines.{LineView, line_view}
use Rattle.er_report.specs.declared.report.Line.{Line}
use Rattle.er_trace.specs.Names.{NameTable}

-- one more row
pub row_more : (rows : List (List ℕ)) (row : List ℕ) → rows_text (rows ++ row ∷ []) ≡ rows_text rows ++ (separator_text (has_none rows) ++ row)
row_more [] row = simp append-nil
row_more (first ∷ rows) row =
    let f = λ (next : List ℕ). 44 ∷ 10 ∷ next in
    ap (λ (text : List ℕ). 10 ∷ text)
    (ap (λ (text : List ℕ). first ++ text) (flat_map-append f rows (row ∷ []) ∙ ap (λ (text : List ℕ). flat_map f rows ++ text) (append-nil (44 ∷ 10 ∷ row)))
    ∙ sym (append_assoc first (flat_map f rows) (44 ∷ 10 ∷ row)))

-- and what may be one
pub rows_more : (b : Bool) (row : List ℕ) (rows : List (List ℕ)) → rows_text (rows ++ cond b (row ∷ []) []) ≡ rows_text rows ++ next_text (has_none rows) (cond b (row ∷ []) [])
rows_more true row rows = row_more rows row
rows_more false row rows = simp append-nil

-- the rows up to the next line
pub rows_next : (s : Section) (names : NameTable) (table : PlaceTable) (lines : List Line) (k : ℕ) (line : Line) → k < length lines → line ≡ get_or lines k line
    → flat_map (rows_in s names table) (map line_view (take (k + 1) lines)) ≡ flat_map (rows_in s names table) (map line_view (take k lines)) ++ rows_in s names table (line_view line)
rows_next s names table lines k line within is = rw (take_more lines k line within, ← is) (simp (map-append, flat_map-append, append-nil))

pub none_more : (rows more : List (List ℕ)) → has_none (rows ++ more) ≡ (has_none rows && has_none more)
none_more [] more = refl
none_more (row ∷ rows) more = refl

-- and their text
pub text_next : (s : Section) (names : NameTable) (table : PlaceTable) (line : LineView) (rows : List (List ℕ)) (old before after : List ℕ) (is_first : Bool) → is_first ≡ has_none rows
    → before ≡ old ++ rows_text rows → after ≡ before ++ next_text is_first (rows_in s names table line) → after ≡ old ++ rows_text (rows ++ rows_in s names table line)
text_next s names table line rows old before after is_first first was put =
    put ∙ ap (λ (text : List ℕ). text ++ next_text is_first (rows_in s names table line)) was
    ∙ ap (λ (b : Bool). (old ++ rows_text rows) ++ next_text b (rows_in s names table line)) first
    ∙ append_assoc old (rows_text rows) _ ∙ ap (λ (text : List ℕ). old ++ text) (sym (rows_more (is_in s line) (row_text names table line) rows))

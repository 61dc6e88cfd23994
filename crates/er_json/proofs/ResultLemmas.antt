-- The results of one more line.
use Rattle.std.proofs.Common.{◌≡◌, ◌∙◌, ◌+◌, ◌==◌, ℕ, zero, suc, Bool, true, false, cond, List, [], ◌∷◌, ◌++◌, take, slice_get, Some, refl, sym, ap, append_assoc, add-one}
use Rattle.std.proofs.lemmas.List.{append-nil}
use Rattle.er_event.specs.declared.steps.Kind.TheVariants as kind
use Rattle.er_json.proofs.RowLemmas.{row_more}
use Rattle.er_json.specs.Document.{rows_text}
use Rattle.er_json.specs.Inner.Sections.{has_none, next_text}
use Rattle.er_places.specs.Places.{PlaceTable}
use Rattle.er_report.specs.declared.report.Line.{Line}
use Rattle.er_report.specs.declared.report.Line.TheVariants.{Race, Reused, Refused, Shown}
use Rattle.er_json.specs.Sarif.{races_like, results_below, results_of}
use Rattle.er_print.specs.declared.lines.ReportKind.{ReportKind}
use Rattle.er_sites.specs.Counted.{AreCounts, count_like}
use Rattle.er_sites.specs.declared.counts.Counts.{Counts}
use Rattle.er_trace.specs.Names.{NameTable}

-- counts by site are those of the races like a line
pub like : (counts : Counts) (lines : List Line) → AreCounts lines counts → (line : Line) → count_like counts line ≡ races_like lines line
like counts lines known (Race kind.Read thread site number word details) = known.reads site
like counts lines known (Race kind.Write thread site number word details) = known.writes site
like counts lines known (Reused thread zero number range details) = refl
like counts lines known (Reused thread (suc site) number range details) = known.reuses (suc site)
like counts lines known (Refused refusal step number) = refl
like counts lines known (Shown number word state) = refl

pub results_next : (of : ReportKind) (names : NameTable) (table : PlaceTable) (lines : List Line) (k : ℕ) (line : Line) (before count : ℕ) → slice_get lines k ≡ Some line → before ≡ races_like (take k lines) line
    → count ≡ races_like lines line → results_below of names table lines (k + 1) ≡ results_below of names table lines k ++ results_of of names table before count line
unfolding results_below
results_next of names table lines k line before count here seen all = rw (add-one k, here, seen, all) refl

one_more : (b : Bool) (row : List ℕ) (rows : List (List ℕ)) → rows_text (rows ++ cond b (row ∷ []) []) ≡ rows_text rows ++ next_text (has_none rows) (cond b (row ∷ []) [])
one_more true row rows = row_more rows row
one_more false row rows = simp append-nil

results_more : (of : ReportKind) (names : NameTable) (table : PlaceTable) (before count : ℕ) (line : Line) (rows : List (List ℕ))
    → rows_text (rows ++ results_of of names table before count line) ≡ rows_text rows ++ next_text (has_none rows) (results_of of names table before count line)
results_more of names table before count (Race kind thread site number word details) rows = one_more (before == 0) _ rows
results_more of names table before count (Reused thread site number range details) rows = one_more (before == 0) _ rows
results_more of names table before count (Refused refusal step number) rows = simp append-nil
results_more of names table before count (Shown number word state) rows = simp append-nil

-- and their text
pub text_next : (of : ReportKind) (names : NameTable) (table : PlaceTable) (before count : ℕ) (line : Line) (rows : List (List ℕ)) (old was now : List ℕ) (is_first : Bool) → is_first ≡ has_none rows
    → was ≡ old ++ rows_text rows → now ≡ was ++ next_text is_first (results_of of names table before count line) → now ≡ old ++ rows_text (rows ++ results_of of names table before count line)
text_next of names table before count line rows old was now is_first first so_far put =
    put ∙ ap (λ (text : List ℕ). text ++ next_text is_first (results_of of names table before count line)) so_far
    ∙ ap (λ (b : Bool). (old ++ rows_text rows) ++ next_text b (results_of of names table before count line)) first
    ∙ append_assoc old (rows_text rows) _ ∙ ap (λ (text : List ℕ). old ++ text) (sym (results_more of names table before count line rows))

-- The rows of the sites that have no race among some lines are among all rows.
use Rattle.std.proofs.Common.{◌≡◌, ◌<◌, ◌≤◌, ◌+◌, ◌&&◌, ◌==◌, ℕ, Bool, true, false, All, cond, count_by, List, [], ◌∷◌, ◌++◌, length, take, get_or, flat_map, arith, slice_get, slice_index_or, option_copied, Option, None, Some, IfSome, refl, sym}
use denote.Ref.{Bor}
use Rattle.std.specs.Slice.{IsItemAt}
use Rattle.std.proofs.lemmas.Option.{slice_get_past, slice_get_read}
use Rattle.std.proofs.lemmas.Grind.{flat_map-append}
use Rattle.std.proofs.lemmas.List.{append-nil, take_more}
use Rattle.std.proofs.lemmas.List.Elements.{All-append, All-head, All-nil, All-cons, All-tail}
use Rattle.er_report.specs.Names.{HasNames}
use Rattle.er_report.specs.declared.report.Line.{Line}
use Rattle.er_report.specs.declared.report.Report.{Report}
use Rattle.er_sites.proofs.NameLemmas.{site_named}
use Rattle.er_sites.specs.Sites.{are_none, if_elsewhere, lines_of, other_rows}
use Rattle.er_sites.specs.Table.{IsTable, reads_at, reuses_at, writes_at}
use Rattle.er_sites.specs.declared.row.SiteRow.{SiteRow}
use Rattle.er_trace.specs.Names.{NameTable}

-- what `get` answered
pub got : {X : Type 0} (xs : List X) (i : ℕ) (r : Option (Bor X)) → IsItemAt xs i r → option_copied r ≡ slice_get xs i
got xs i None is = sym (slice_get_past xs i is.3)
got xs i (Some x) is = sym (slice_get_read xs (length xs) i x.now refl is.3.0 is.1)

-- one more row
pub take_next : (lines : List Line) (rows : List SiteRow) (k : ℕ) (row : SiteRow) → k < length rows → row ≡ get_or rows k row
    → flat_map (if_elsewhere lines) (take (k + 1) rows) ≡ flat_map (if_elsewhere lines) (take k rows) ++ if_elsewhere lines row
take_next lines rows k row within is = rw (take_more rows k row within, ← is) (simp (flat_map-append, append-nil))

one_or_none : (P : SiteRow → Type 0) (row : SiteRow) (b : Bool) → P row → All P (cond b (row ∷ []) [])
one_or_none P row true holds = All-cons P row [] holds (All-nil P)
one_or_none P row false holds = All-nil P

-- what holds of all rows holds of these
pub others_hold : (P : SiteRow → Type 0) (lines : List Line) (rows : List SiteRow) → All P rows → All P (other_rows lines rows)
unfolding other_rows
others_hold P lines [] all = All-nil P
others_hold P lines (row ∷ rows) all =
    All-append P (if_elsewhere lines row) (other_rows lines rows)
    (one_or_none P row (count_by (reads_at row.site) lines == 0 && count_by (writes_at row.site) lines == 0 && count_by (reuses_at row.site) lines == 0) (All-head P row rows all)) (others_hold P lines rows (All-tail P row rows all))

-- the lines of a report that may not be there have names
pub lines_named : (names : NameTable) (report : Option Report) → IfSome report (λ (r : Report). All (HasNames names) r.lines.items) → All (HasNames names) (lines_of report)
lines_named names None named = All-nil (HasNames names)
lines_named names (Some report) named = named

-- and so have the sites of their table
pub table_named : (names : NameTable) (lines : List Line) (rows : List SiteRow) → All (HasNames names) lines → IsTable names lines rows
    → All (λ (row : SiteRow). row.site ≤ length names.sites) rows
table_named names lines rows named table = λ k d h. site_named names lines (slice_index_or rows k d) named (table.own k d h)

-- there are no rows
pub none_is : (rows : List SiteRow) → (length rows == 0) ≡ are_none rows
none_is [] = refl
none_is (row ∷ rows) = grind arith

-- The rows that are made of counts.
use Rattle.std.specs.Prelude.{◌≡◌, ℕ, cond, nat_lt, List, Option, Some, None, slice_index_or, All}
use Rattle.std.specs.List.{position, sum_by}
pub use Rattle.er_report.specs.Names.{HasNames}
use Rattle.er_report.specs.declared.report.Line.{Line}
use Rattle.er_sites.specs.Table.{is_at, races_at, races_in, IsOwnCount}
use Rattle.er_sites.specs.declared.row.SiteRow.{SiteRow}
use Rattle.er_trace.specs.Names.{NameTable}

-- the first place, or the other where there is no first
abbrev pub or_first : Option ℕ → Option ℕ → Option ℕ
or_first None other = other
or_first (Some place) other = Some place

-- each site has the place of its first race
abbrev pub AreExamples : List Line → List (Option ℕ) → Type 0
AreExamples lines examples = (s : ℕ) → slice_index_or examples s None ≡ position (is_at s) lines

-- the rows are those of the sites below this one
pub record HasRowsBelow (names : NameTable) (lines : List Line) (rows : List SiteRow) (site : ℕ) : Type 0 where
  pub own : All (IsOwnCount names lines) rows
  pub each : (q : ℕ) → sum_by (races_in q) rows ≡ cond (nat_lt q site) (races_at lines q) 0

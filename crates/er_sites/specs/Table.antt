-- The table of sites: what each row counts, and that no race is left out or counts twice.
use Rattle.std.specs.Prelude.{◌≡◌, ◌<◌, ◌+◌, ◌&&◌, ◌==◌, not, ℕ, Bool, true, false, cond, List, Some, count_by, All, IsSorted}
use Rattle.std.specs.List.{position, sum_by}
use Rattle.std.specs.Ordering.{bool_cmp, nat_cmp, ordering_then}
use Rattle.std.specs.declared.cmp.Ordering.{Ordering}
use Rattle.er_event.specs.declared.steps.Kind.{Kind}
use Rattle.er_event.specs.declared.steps.Kind.TheVariants as kind
use Rattle.er_report.specs.declared.report.Line.{Line}
use Rattle.er_report.specs.declared.report.Line.TheVariants.{Race, Reused, Refused, Shown}
use Rattle.er_sites.specs.System.{is_system_site}
use Rattle.er_sites.specs.declared.row.SiteRow.{SiteRow}
use Rattle.er_trace.specs.Names.{NameTable}

-- the access only reads
abbrev pub is_read : Kind → Bool
is_read kind.Read = true
is_read kind.Write = false

-- the access writes
abbrev pub is_write : Kind → Bool
is_write kind.Read = false
is_write kind.Write = true

-- the line is a race of a read at this site
abbrev pub reads_at : ℕ → Line → Bool
reads_at s (Race kind thread site number word details) = is_read kind && s == site
reads_at s (Reused thread site number range details) = false
reads_at s (Refused refusal step number) = false
reads_at s (Shown number word state) = false

-- the line is a race of a write at this site
abbrev pub writes_at : ℕ → Line → Bool
writes_at s (Race kind thread site number word details) = is_write kind && s == site
writes_at s (Reused thread site number range details) = false
writes_at s (Refused refusal step number) = false
writes_at s (Shown number word state) = false

-- the line is a race of a reuse at this site; one without a site is at none
abbrev pub reuses_at : ℕ → Line → Bool
reuses_at s (Race kind thread site number word details) = false
reuses_at s (Reused thread site number range details) = not (site == 0) && s == site
reuses_at s (Refused refusal step number) = false
reuses_at s (Shown number word state) = false

-- the line is a race at this site
abbrev pub is_at : ℕ → Line → Bool
is_at s (Race kind thread site number word details) = s == site
is_at s (Reused thread site number range details) = not (site == 0) && s == site
is_at s (Refused refusal step number) = false
is_at s (Shown number word state) = false

-- how many races there are at a site
abbrev pub races_at : List Line → ℕ → ℕ
races_at lines s = count_by (reads_at s) lines + count_by (writes_at s) lines + count_by (reuses_at s) lines

-- how many races a row has
abbrev pub races_of : SiteRow → ℕ
races_of row = row.reads + row.writes + row.reuses

-- the row counts the races of its own site, of which there are some, and its example is the first of them
pub record IsOwnCount (names : NameTable) (lines : List Line) (row : SiteRow) : Type 0 where
  pub reads : row.reads ≡ count_by (reads_at row.site) lines
  pub writes : row.writes ≡ count_by (writes_at row.site) lines
  pub reuses : row.reuses ≡ count_by (reuses_at row.site) lines
  pub some : 0 < races_of row
  pub example : position (is_at row.site) lines ≡ Some row.example
  pub system : row.is_system ≡ is_system_site names row.site

-- the row's races, if it is the site's
abbrev pub races_in : ℕ → SiteRow → ℕ
races_in s row = cond (row.site == s) (races_of row) 0

-- the order of the rows: sites in headers of the system come last, most races come first, and then the sites by their numbers
abbrev pub row_order : SiteRow → SiteRow → Ordering
row_order row other =
    ordering_then (bool_cmp row.is_system other.is_system) (ordering_then (nat_cmp (races_of other) (races_of row)) (nat_cmp row.site other.site))

-- a row counts its own site, the rows of a site have all races there, once, and the rows come in their order
pub record IsTable (names : NameTable) (lines : List Line) (rows : List SiteRow) : Type 0 where
  pub own : All (IsOwnCount names lines) rows
  pub each : (s : ℕ) → sum_by (races_in s) rows ≡ races_at lines s
  pub sorted : IsSorted row_order rows

-- The whole text for people: the sites of the accesses that are unordered in the run, the other sites of the lockset rule's races, and what each
-- report ends with. What belongs to a report that isn't there is left out.
use Rattle.std.specs.Prelude.{◌≡◌, ◌==◌, ◌&&◌, ℕ, Bool, true, false, cond, count_by, is_some, List, [], ◌∷◌, ◌++◌, flat_map, Option, Some, None, codes}
use Rattle.std.specs.List.{find, list_any}
use Rattle.er_places.specs.Places.{PlaceTable}
use Rattle.er_print.specs.Printed.{end_text}
use Rattle.er_print.specs.declared.lines.ReportKind.{ReportKind}
use Rattle.er_print.specs.declared.lines.ReportKind.TheVariants.{Lockset, Unordered}
use Rattle.er_report.specs.Lines.{line_view, race_of}
use Rattle.er_report.specs.Report.{told}
pub use Rattle.er_report.specs.Reports.{HaveNames}
use Rattle.er_report.specs.declared.report.Line.{Line}
use Rattle.er_report.specs.declared.report.Report.{Report}
use Rattle.er_report.specs.declared.reports.Reports.{Reports}
use Rattle.er_sites.specs.Table.{IsTable, reads_at, reuses_at, writes_at}
use Rattle.er_sites.specs.Text.{is_refused, is_reused, refused_text, reuse_story, rows_text}
use Rattle.er_sites.specs.Mentions.{example_mentions, reuse_mentions, mentions_text}
use Rattle.er_sites.specs.declared.mentions.Mention.{Mention}
use Rattle.er_sites.specs.declared.mentions.Mention.TheVariants as mention
use Rattle.er_sites.specs.declared.row.SiteRow.{SiteRow}
use Rattle.er_trace.specs.Names.{NameTable}

-- the lines of a report, or these if it isn't there
abbrev pub lines_or : Option Report → List Line → List Line
lines_or None others = others
lines_or (Some report) others = report.lines.items

-- the lines of a report; without a report there are none
abbrev pub lines_of : Option Report → List Line
lines_of report = lines_or report []

-- there is no row
abbrev pub are_none : List SiteRow → Bool
are_none [] = true
are_none (row ∷ rows) = false

-- a heading, and that nothing is below it
abbrev pub title_of : List ℕ → List ℕ → Bool → List ℕ
title_of title nothing none = title ++ cond none nothing (10 ∷ [])

-- there is nothing below the heading of the run, unless a reuse is
abbrev pub nothing_in : List Line → List ℕ
nothing_in lines = cond (list_any is_reused lines) (10 ∷ []) (codes ": none\n\n")

-- the reuses that are unordered with an access, one after another
abbrev pub reuses_text : NameTable → PlaceTable → List Line → List ℕ
reuses_text names table lines = flat_map (λ (line : Line). reuse_story names table (race_of (line_view line))) lines

-- the sites of the unordered accesses, and then the unordered reuses
abbrev pub run_text : NameTable → PlaceTable → Option Report → List SiteRow → List ℕ
run_text names table None rows = []
run_text names table (Some report) rows =
    title_of (codes "races in this run") (nothing_in report.lines.items) (are_none rows) ++ rows_text names table report.lines.items rows ++ reuses_text names table report.lines.items

-- the heading of the other sites, if those of the run stand above them
abbrev pub others_title : Bool → Bool → List ℕ
others_title below none = cond below (title_of (codes "no common lock") (codes ": no further site\n\n") none) []

-- the other sites of the lockset rule's races
abbrev pub others_text : NameTable → PlaceTable → Option Report → Bool → List SiteRow → List ℕ
others_text names table None below rows = []
others_text names table (Some report) below rows = others_title below (are_none rows) ++ rows_text names table report.lines.items rows

-- the row, if its site has no race among these lines
abbrev pub if_elsewhere : List Line → SiteRow → List SiteRow
if_elsewhere lines row = cond (count_by (reads_at row.site) lines == 0 && count_by (writes_at row.site) lines == 0 && count_by (reuses_at row.site) lines == 0) (row ∷ []) []

-- the rows of the sites at which none of these lines races
unfoldable pub other_rows : List Line → List SiteRow → List SiteRow
other_rows lines rows = flat_map (if_elsewhere lines) rows

-- what a report ends with, if it is there
abbrev pub end_if : ReportKind → Option Report → List ℕ
end_if of None = []
end_if of (Some report) = end_text of (told report)

-- what the examples and the reuses mention
abbrev pub told_mentions : Mention → PlaceTable → Reports → List SiteRow → List SiteRow → List ℕ
told_mentions of table reports first others =
    flat_map (example_mentions of table (lines_of reports.unordered)) first ++ flat_map (λ (line : Line). reuse_mentions of table (race_of (line_view line))) (lines_of reports.unordered)
    ++ flat_map (example_mentions of table (lines_of reports.lockset)) others

-- the sites of both tables, then where threads were started and the lives of locks began, then the first refused step, then what each report ends with
unfoldable pub sites_text : NameTable → PlaceTable → Reports → List SiteRow → List SiteRow → List ℕ
sites_text names table reports first others =
    run_text names table reports.unordered first ++ others_text names table reports.lockset (is_some reports.unordered) others
    ++ mentions_text mention.Threads names table (told_mentions mention.Threads table reports first others)
    ++ mentions_text mention.Locks names table (told_mentions mention.Locks table reports first others) ++ refused_text (find is_refused (lines_or reports.lockset (lines_of reports.unordered)))
    ++ end_if Lockset reports.lockset ++ end_if Unordered reports.unordered

-- the bytes are the text of a table of each report; the second leaves out the sites of the first
abbrev pub AreSitesOf : NameTable → PlaceTable → Reports → List ℕ → Type 0
AreSitesOf names table reports bytes =
    (first : List SiteRow) × (all : List SiteRow) × (IsTable names (lines_of reports.unordered) first × (IsTable names (lines_of reports.lockset) all
    × (bytes ≡ sites_text names table reports first (other_rows (lines_of reports.unordered) all))))

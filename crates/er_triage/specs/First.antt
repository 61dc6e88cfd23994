-- The first races of reports.
use Rattle.std.specs.Prelude.{◌≡◌, ℕ, is_some, cond, ◌-◌, nat_lt, IsSomeAnd, List, [], ◌∷◌, map, Option, Some, None}
use Rattle.er_report.specs.Lines.{line_view}
use Rattle.er_report.specs.Report.{told}
use Rattle.er_report.specs.declared.report.Report.{Report}
use Rattle.er_report.specs.declared.report.Line.{Line}
use Rattle.er_report.specs.declared.reports.Reports.{Reports}
use Rattle.er_triage.specs.Known.{race_of}

-- the lines without the races past the first few
abbrev pub first_races : ℕ → List Line → List Line
first_races most [] = []
first_races most (line ∷ lines) =
    cond (is_some (race_of line)) (cond (nat_lt 0 most) (line ∷ first_races (most - 1) lines) (first_races most lines)) (line ∷ first_races most lines)

-- the report has the lines of those races alone, and all else as it was
pub record IsOfFirst (most : ℕ) (report kept : Report) : Type 0 where
  pub lines : kept.lines.items ≡ first_races most report.lines.items
  pub others : told kept ≡ record (told report) { lines = map line_view kept.lines.items }

-- the report, if there is one, with the lines of its first races alone if their number is limited
abbrev pub KeepsFirst : Option ℕ → Option Report → Option Report → Type 0
KeepsFirst None report kept = kept ≡ report
KeepsFirst (Some most) None kept = kept ≡ None
KeepsFirst (Some most) (Some report) kept = IsSomeAnd kept (IsOfFirst most report)

-- each of the reports is kept so
pub record KeepFirst (most : Option ℕ) (reports kept : Reports) : Type 0 where
  pub lockset : KeepsFirst most reports.lockset kept.lockset
  pub unordered : KeepsFirst most reports.unordered kept.unordered

-- The races of reports, and what a trace is asked for them.
use Rattle.std.specs.Prelude.{ℕ, nat_eq, ◌||◌, Bool, false, Option, Some, None}
use Rattle.std.specs.List.{list_any}
use Rattle.er_report.specs.Lines.{RaceView, line_view, race_of}
use Rattle.er_report.specs.declared.report.Deed.{Deed}
use Rattle.er_report.specs.declared.report.Deed.TheVariants.{Access, Reuse}
use Rattle.er_report.specs.declared.report.Line.{Line}
use Rattle.er_report.specs.declared.report.Report.{Report}
use Rattle.er_report.specs.declared.reports.Reports.{Reports}

-- the race is on this line of the trace
abbrev pub is_on : ℕ → RaceView → Bool
is_on line race = nat_eq line race.line

-- what a thread did is an access to this word
abbrev pub deed_accesses : ℕ → Deed → Bool
deed_accesses word (Access kind accessed) = nat_eq word accessed
deed_accesses word (Reuse range) = false

-- the race is made by an access to this word
abbrev pub accesses : ℕ → RaceView → Bool
accesses word race = deed_accesses word race.deed

-- there is a race, and it is such a one
abbrev pub is_such : (RaceView → Bool) → Option RaceView → Bool
is_such such None = false
is_such such (Some race) = such race

-- a line of a report tells such a race
abbrev pub tells_race : (RaceView → Bool) → Line → Bool
tells_race such line = is_such such (race_of (line_view line))

-- there is a report, and one of its lines tells such a race
abbrev pub has_race : (RaceView → Bool) → Option Report → Bool
has_race such None = false
has_race such (Some report) = list_any (tells_race such) report.lines.items

-- one of the reports has such a race
abbrev pub have_race : (RaceView → Bool) → Reports → Bool
have_race such reports = has_race such reports.lockset || has_race such reports.unordered

-- Rules that take the races of reports.
use Rattle.std.specs.Prelude.{◌≡◌, ℕ, ◌<◌, ◌≤◌, Bool, cond, is_some, IfSome, IsSome, IsSomeAnd, List, [], ◌∷◌, ◌++◌, count_by, length, map, position, slice_get, Option, Some, None}
use Rattle.std.specs.List.{find, fold}
use Rattle.er_report.specs.Lines.{RaceView, line_view, race_of as raced_in}
use Rattle.er_report.specs.Report.{is_rule, site_name}
use Rattle.er_report.specs.declared.report.Deed.{Deed}
use Rattle.er_report.specs.declared.report.Deed.TheVariants as deed
use Rattle.er_report.specs.declared.report.Line.{Line}
use Rattle.er_report.specs.declared.report.Report.{Report}
use Rattle.er_report.specs.declared.reports.Reports.{Reports}
use Rattle.er_rules.specs.Rules.{Target, AtSite, AtWords, takes, takes_reuse}
pub use Rattle.er_report.specs.Names.{HasNames}
pub use Rattle.er_report.specs.Reports.{HaveNames}
pub use Rattle.er_trace.specs.Names.{NameTable}
use Rattle.er_triage.specs.declared.known.KnownRace.{KnownRace}

-- the lines of a report, if there is one
abbrev pub lines_in : Option Report → List Line
lines_in None = []
lines_in (Some report) = report.lines.items

-- those of all reports, the report by the lockset rule first
abbrev pub lines_of : Reports → List Line
lines_of reports = lines_in reports.lockset ++ lines_in reports.unordered

-- a race alone
abbrev pub alone : Option RaceView → Option KnownRace
alone None = None
alone (Some race) = Some (record { line = race.line; thread = race.thread; deed = race.deed; site = race.site; races = 1 })

-- the race of a line, if it is one, alone
abbrev pub race_of : Line → Option KnownRace
race_of line = alone (raced_in (line_view line))

-- whether a rule takes a race
abbrev pub takes_race : NameTable → Deed → ℕ → Target → Bool
takes_race names (deed.Access kind word) site target = takes target (site_name names site) word
takes_race names (deed.Reuse range) site target = takes_reuse target (site_name names site) range.lo range.hi

-- the first rule that takes a race
abbrev pub rule_of : NameTable → List Target → Deed → ℕ → Option ℕ
rule_of names rules what site = position (takes_race names what site) rules

-- a rule by the name of a site, or by these words if it has none
abbrev pub target_at : Option (List ℕ) → ℕ → ℕ → Target
target_at None lo hi = AtWords (Some (record { first = lo; last = hi }))
target_at (Some name) lo hi = AtSite (Some name)

-- the rule of a race, by its site or its words
abbrev pub race_target : NameTable → Deed → ℕ → Target
race_target names (deed.Access kind word) site = target_at (site_name names site) word word
race_target names (deed.Reuse range) site = target_at (site_name names site) range.lo range.hi

-- the rule of a race that is known
abbrev pub known_target : NameTable → KnownRace → Target
known_target names race = race_target names race.deed race.site

-- the rules, and behind them that of a race if none of them takes it
abbrev pub with_rule : NameTable → List Target → Option KnownRace → List Target
with_rule names rules None = rules
with_rule names rules (Some race) = cond (is_some (rule_of names rules race.deed race.site)) rules (rules ++ known_target names race ∷ [])

-- the rules that the races of these lines ask for, one after another
abbrev pub rules_of : NameTable → List Line → List Target
rules_of names lines = fold (λ rules line. with_rule names rules (race_of line)) [] lines

-- if the line is a race, one of the rules takes it
abbrev pub IsTaken : NameTable → List Target → Line → Type 0
IsTaken names rules line = IfSome (race_of line) (λ race. IsSome (rule_of names rules race.deed race.site))

-- the first rule that takes the race, if there is one
abbrev pub first_rule : NameTable → List Target → Option KnownRace → Option ℕ
first_rule names rules None = None
first_rule names rules (Some race) = rule_of names rules race.deed race.site

-- the line is a race that the rule in this place takes, and none before it
abbrev pub is_taken_by : NameTable → List Target → ℕ → Line → Bool
is_taken_by names rules place line = is_rule place (first_rule names rules (race_of line))

-- it counts the races that the rule in this place takes, and is the first of them
pub record IsCountAt (names : NameTable) (rules : List Target) (lines : List Line) (place : ℕ) (race : KnownRace) : Type 0 where
  pub races : race.races ≡ count_by (is_taken_by names rules place) lines
  pub first : IsSomeAnd (find (is_taken_by names rules place) lines) (λ line. race_of line ≡ Some (record race { races = 1 }))

-- each known race counts the races of its own rule
abbrev pub AreCounts : NameTable → List Line → List KnownRace → Type 0
AreCounts names lines known =
    (place : ℕ) (race : KnownRace) → slice_get known place ≡ Some race → IsCountAt names (map (known_target names) known) lines place race

-- the thread and the site of the race have names, unless the site is the missing one
abbrev pub IsNamed : NameTable → KnownRace → Type 0
IsNamed names race = (race.thread < length names.threads) × (race.site ≤ length names.sites)

-- Races that rules take by what a trace says of the program. Those that rules take by sites or words are taken before.
use Rattle.std.specs.Prelude.{◌≡◌, ℕ, ◌-◌, ◌+◌, ◌^◌, ◌&&◌, min, max, Bool, false, List, count_by, filter, length, map, position, slice_get, is_none, IsSomeAnd, Option, Some, None, option_map, vec_items}
use Rattle.std.specs.List.{list_any}
use Rattle.er_lines.specs.Lines.{has_bytes}
use Rattle.er_places.specs.Facts.{way_on}
use Rattle.er_places.specs.Names.{call_function, variable_of}
use Rattle.er_places.specs.Places.{PlaceTable, call_name}
use Rattle.er_places.specs.declared.facts.Variable.{Variable as VariableFact}
use Rattle.er_report.specs.Lines.{RaceView, line_view, race_of}
use Rattle.er_report.specs.Report.{is_rule, told}
use Rattle.er_report.specs.declared.report.Deed.{Deed}
use Rattle.er_report.specs.declared.report.Deed.TheVariants.{Access, Reuse}
use Rattle.er_report.specs.declared.report.Line.{Line}
use Rattle.er_report.specs.declared.report.Report.{Report}
use Rattle.er_report.specs.declared.reports.Reports.{Reports}
use Rattle.er_rules.specs.Patterns.{pattern_takes}
use Rattle.er_rules.specs.Rules.{Target, AtSite, AtSites, AtWords, AtFact}
use Rattle.er_rules.specs.declared.rules.FactKind.{FactKind}
use Rattle.er_rules.specs.declared.rules.FactKind.TheVariants.{Frame, Function, Variable}

-- there is a name, and the pattern takes it
abbrev pub takes_name : List ℕ → List ℕ → Bool
takes_name pattern name = has_bytes name && pattern_takes pattern name

-- the variable is known, and the pattern takes its name
abbrev pub takes_variable : List ℕ → Option VariableFact → Bool
takes_variable pattern None = false
takes_variable pattern (Some variable) = takes_name pattern (vec_items variable.name)

-- of a reuse no variable is known
abbrev pub takes_deed : PlaceTable → List ℕ → Deed → Bool
takes_deed table pattern (Access kind word) = takes_variable pattern (variable_of table word)
takes_deed table pattern (Reuse range) = false

-- a pattern takes the place of a race's event or of a call that led there, the function of one of these, or the variable that the access touched
abbrev pub takes_by : PlaceTable → RaceView → FactKind → List ℕ → Bool
takes_by table race Frame pattern = list_any (λ call. takes_name pattern (call_name table call)) (way_on table.facts race.line)
takes_by table race Function pattern = list_any (λ call. takes_name pattern (call_function table call)) (way_on table.facts race.line)
takes_by table race Variable pattern = takes_deed table pattern race.deed

-- whether a rule takes a race by such a fact
abbrev pub takes_fact : PlaceTable → RaceView → Target → Bool
takes_fact table race (AtSite name) = false
takes_fact table race (AtSites pattern) = false
takes_fact table race (AtWords words) = false
takes_fact table race (AtFact kind pattern) = takes_by table race kind pattern

-- the first rule that takes the race, if there is one
abbrev pub fact_rule : PlaceTable → List Target → Option RaceView → Option ℕ
fact_rule table rules None = None
fact_rule table rules (Some race) = position (takes_fact table race) rules

-- the first rule that takes the race of a line
abbrev pub line_rule : PlaceTable → List Target → Line → Option ℕ
line_rule table rules line = fact_rule table rules (race_of (line_view line))

-- a count with so many more, up to the greatest one of 64 bits
abbrev pub with_more : ℕ → ℕ → ℕ
with_more more count = max count (min (count + more) (2 ^ 64 - 1))

-- how many of these lines the rule in a place takes
abbrev pub taken_by : PlaceTable → List Target → List Line → ℕ → ℕ
taken_by table rules lines place = count_by (λ line. is_rule place (line_rule table rules line)) lines

-- the report without the races that a rule takes: their lines are gone, each counts for its rule, and all else is as it was
pub record IsLeft (table : PlaceTable) (rules : List Target) (report left : Report) : Type 0 where
  pub lines : left.lines.items ≡ filter (λ line. is_none (line_rule table rules line)) report.lines.items
  pub counts : (place : ℕ) → slice_get left.rule_counts.items place ≡ option_map (with_more (taken_by table rules report.lines.items place)) (slice_get report.rule_counts.items place)
  pub totals : told left ≡ record (told report) {
    lines = map line_view left.lines.items;
    rule_counts = left.rule_counts.items;
    races = report.races - (length report.lines.items - length left.lines.items);
    suppressed = with_more (length report.lines.items - length left.lines.items) report.suppressed;
  }

-- what is left of a report, if there is one
abbrev pub IsLeftOf : PlaceTable → List Target → Option Report → Option Report → Type 0
IsLeftOf table rules None left = left ≡ None
IsLeftOf table rules (Some report) left = IsSomeAnd left (IsLeft table rules report)

-- what is left of each report
pub record AreLeft (table : PlaceTable) (rules : List Target) (reports left : Reports) : Type 0 where
  pub lockset : IsLeftOf table rules reports.lockset left.lockset
  pub unordered : IsLeftOf table rules reports.unordered left.unordered

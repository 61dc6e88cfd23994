-- The texts of rules, to the byte.
use Rattle.std.specs.Prelude.{◌≡◌, ◌&&◌, ℕ, zero, suc, All, Bool, true, false, cond, ◌+◌, ◌-◌, ◌*◌, List, [], ◌∷◌, ◌++◌, flat_map, map, slice_get, Option, Some, None, codes, decimal}
use Rattle.er_print.specs.Printed.{address_text, bytes_between, kind_text, name_at}
use Rattle.er_report.specs.declared.report.Deed.{Deed}
use Rattle.er_report.specs.declared.report.Deed.TheVariants.{Access, Reuse}
use Rattle.er_report.specs.declared.report.Line.{Line}
use Rattle.er_report.specs.declared.report.Report.{Report}
use Rattle.er_report.specs.declared.reports.Reports.{Reports}
use Rattle.er_rules.specs.Rules.{Target, AtSite, AtSites, AtWords, AtFact}
use Rattle.er_rules.specs.declared.rules.FactKind.TheVariants.{Frame, Function, Variable}
use Rattle.er_sites.specs.System.{is_system_name}
use Rattle.er_trace.specs.Names.{NameTable}
use Rattle.er_triage.specs.Known.{known_target, rules_of, AreCounts}
use Rattle.er_triage.specs.Sound.{IsSound}
use Rattle.er_triage.specs.declared.known.KnownRace.{KnownRace}

-- a rule as a suppression text has it; the size is in bytes
abbrev pub target_text : Target → List ℕ
target_text (AtSite None) = codes "site -"
target_text (AtSite (Some name)) = codes "site " ++ name
target_text (AtSites pattern) = codes "site " ++ pattern
target_text (AtFact Frame pattern) = codes "frame " ++ pattern
target_text (AtFact Function pattern) = codes "function " ++ pattern
target_text (AtFact Variable pattern) = codes "variable " ++ pattern
target_text (AtWords None) = codes "words 0 0"
target_text (AtWords (Some run)) = codes "words " ++ address_text run.first ++ codes " " ++ decimal (4 * (run.last + 1 - run.first))

-- who did what to which word, or gave back which words
abbrev pub raced_text : NameTable → ℕ → Deed → List ℕ
raced_text names thread (Access kind word) = name_at names.threads thread ++ codes " " ++ kind_text kind ++ codes " " ++ address_text word
raced_text names thread (Reuse range) = name_at names.threads thread ++ codes " reuse " ++ address_text range.lo ++ codes " " ++ decimal (bytes_between range.lo range.hi)

-- how many races a rule takes, and the line of the first of them
abbrev pub count_text : KnownRace → List ℕ
count_text race = codes "# races " ++ decimal race.races ++ codes ", first: line " ++ decimal race.line

-- what a rule takes: how many races, and the first of them
abbrev pub taken_text : NameTable → KnownRace → List ℕ
taken_text names race = count_text race ++ codes ", " ++ raced_text names race.thread race.deed ++ 10 ∷ []

-- a comment that warns of a rule for a line of a system header, as it hides too much
unfoldable pub comment_text : List ℕ → List ℕ
comment_text name = codes "# " ++ name ++ codes " is a line of a system header: this rule hides the races of every part of the program that uses it\n"

-- what a rule hides, if it is for a site in a header of the system
abbrev pub hidden_text : Target → List ℕ
hidden_text (AtSite None) = []
hidden_text (AtSite (Some name)) = cond (is_system_name name) (comment_text name) []
hidden_text (AtSites pattern) = []
hidden_text (AtWords words) = []
hidden_text (AtFact kind pattern) = []

-- a rule, below comments that say what it takes and hides
abbrev pub known_text : NameTable → KnownRace → List ℕ
known_text names race = taken_text names race ++ hidden_text (known_target names race) ++ target_text (known_target names race) ++ 10 ∷ []

-- the whole file
abbrev pub known_races_text : NameTable → List KnownRace → List ℕ
known_races_text names known = codes "# Known races, written by eraser replay --write-rules\n" ++ flat_map (known_text names) known

-- the text is that of rules for the races of these lines, each with the races that it takes, and with names and numbers that can be read again
pub record IsKnownText (names : NameTable) (lines : List Line) (text : List ℕ) : Type 0 where
  pub known : List KnownRace
  pub rules : map (known_target names) known ≡ rules_of names lines
  pub counted : AreCounts names lines known
  pub sound : All (IsSound names) known
  pub says : text ≡ known_races_text names known

-- the count is there, and is 0
abbrev pub is_zero : Option ℕ → Bool
is_zero None = false
is_zero (Some zero) = true
is_zero (Some (suc n)) = false

-- the report, if there is one, says that the rule in this place took no race
abbrev pub took_none : Option Report → ℕ → Bool
took_none None place = true
took_none (Some report) place = is_zero (slice_get report.rule_counts.items place)

-- the rule in this place took no race of any report
abbrev pub is_unused : Reports → ℕ → Bool
is_unused reports place = took_none reports.lockset place && took_none reports.unordered place

-- the line of such a rule
abbrev pub unused_text : ℕ → Target → List ℕ
unused_text number target = codes "unused suppression " ++ decimal number ++ codes ": " ++ target_text target ++ 10 ∷ []

-- these lines for the rules from place k on; rules are numbered from 1
abbrev pub unused_from : ℕ → Reports → List Target → List ℕ
unused_from k reports [] = []
unused_from k reports (target ∷ targets) = cond (is_unused reports k) (unused_text (k + 1) target) [] ++ unused_from (k + 1) reports targets

-- how many races were left out, if some were
abbrev pub left_out_text : ℕ → List ℕ
left_out_text zero = []
left_out_text (suc n) = codes "races left out: " ++ decimal (suc n) ++ 10 ∷ []

-- What is noted of reports on standard error.
use Rattle.std.specs.Prelude.{◌≡◌, ℕ, Bool, cond, List, [], ◌++◌}
use Rattle.er_report.specs.declared.reports.Reports.{Reports}
use Rattle.er_rules.specs.Rules.{Target}
use Rattle.er_triage.specs.Texts.{left_out_text, unused_from}

-- the lines of these rules that took no race, if they are wanted, and how many races were left out
abbrev pub notes_text : Bool → Reports → List Target → ℕ → List ℕ
notes_text wanted reports rules left_out = cond wanted (unused_from 0 reports rules) [] ++ left_out_text left_out

-- the lines of rules that took no race, and how many races were left out; there may be none of either
pub record AreNotes (text : List ℕ) : Type 0 where
  pub reports : Reports
  pub rules : List Target
  pub left_out : ℕ
  pub says : text ≡ unused_from 0 reports rules ++ left_out_text left_out

-- The reports of a trace, of each analysis that was asked for.
use Rattle.std.specs.Prelude.{Bool, true, false, All, IfSome}
use Rattle.er_report.specs.Names.{HasNames}
use Rattle.er_report.specs.declared.reports.Analysis.{Analysis}
use Rattle.er_report.specs.declared.reports.Analysis.TheVariants.{Lockset, HappensBefore, Both}
use Rattle.er_report.specs.declared.reports.Reports.{Reports}
use Rattle.er_trace.specs.Names.{NameTable}

-- whether a report by the lockset rule is asked for
abbrev pub asks_locks : Analysis → Bool
asks_locks Lockset = true
asks_locks HappensBefore = false
asks_locks Both = true

-- whether a report by happens-before is
abbrev pub asks_order : Analysis → Bool
asks_order Lockset = false
asks_order HappensBefore = true
asks_order Both = true

-- each number in the reports that needs a name to be printed has one
pub record HaveNames (names : NameTable) (reports : Reports) : Type 0 where
  pub lockset : IfSome reports.lockset (λ report. All (HasNames names) report.lines.items)
  pub unordered : IfSome reports.unordered (λ report. All (HasNames names) report.lines.items)

-- What holds of all lines holds of those that are kept.
use Rattle.std.proofs.Common.{All, IfSome, Option, subst, sym, List}
use Rattle.er_report.specs.Names.{HasNames}
use Rattle.er_report.specs.declared.report.Line.{Line}
use Rattle.er_report.specs.declared.report.Report.{Report}
use Rattle.er_triage.proofs.FirstLemmas.{all_first}
use Rattle.er_triage.proofs.wishes.keep_first_races.Goals as goal

pub returns-in_ok-keep_first-in-Some-Some-clause-named : goal.returns-in_ok-keep_first-in-Some-Some-clause-named
returns-in_ok-keep_first-in-Some-Some-clause-named c = λ names named.
    let all : All (HasNames names) c.in-Some-Some.report.lines.items =
    subst (λ (report : Option Report). IfSome report (λ report. All (HasNames names) report.lines.items)) c.in-Some-Some.is-0 named in
    subst (λ (lines : List Line). All (HasNames names) lines) (sym c.in_ok-keep_first-in-Some-Some.ensures.lines)
    (all_first (HasNames names) c.in-Some-Some.most c.in-Some-Some.report.lines.items all)

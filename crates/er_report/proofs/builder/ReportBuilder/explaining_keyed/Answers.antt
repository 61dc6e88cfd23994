use Rattle.std.proofs.Common.{rules, ◌≡◌, None}
use Rattle.std.proofs.lemmas.Option.{IfSome_then}
use Rattle.er_report.specs.Builder.{IsBuilt}
use Rattle.er_report.specs.Inner.Adding.{empty_report}
use Rattle.er_report.specs.Report.{told}
use Rattle.er_report.specs.declared.report.Report.{Report}
use Rattle.er_report.proofs.BuilderLemmas.{built-start}
use Rattle.er_report.proofs.builder.ReportBuilder.explaining_keyed.Goals as goal

pub returns-clause-built_by : goal.returns-clause-built_by
returns-clause-built_by c =
    let report : Report = record { lines = c.new.result; stop = None; rule_counts = c.in_ok-rule_counts.rule_counts; steps = 0; races = 0; suppressed = 0; refused = 0; lost = None } in
    let empty : told report ≡ empty_report c.len.result = search rules in
    built-start _ c.len.result empty c.len.ensures c.new-2.ensures.items

pub returns-clause-built : goal.returns-clause-built
unfolding IsBuilt
returns-clause-built c = λ r. record { built = returns-clause-built_by c _ r; explained = IfSome_then c.then-explainer.result c.then-explainer.ensures.some (λ kept made. made r _) }

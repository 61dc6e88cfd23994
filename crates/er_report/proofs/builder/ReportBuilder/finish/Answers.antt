use Rattle.std.proofs.Common.{◌∙◌, length, sym, ap, subst}
use Rattle.std.proofs.lemmas.List.Elements.{All-nil}
use Rattle.er_model.specs.Answers.{answer}
use Rattle.er_report.specs.Builder.{Built, IsBuilt, IsBuiltBy}
use Rattle.er_report.specs.Names.{HasReasonNames}
use Rattle.er_report.specs.Report.{told, report_by, answered_steps, no_reasons}
use Rattle.er_rules.specs.Rules.{targets_of}
use Rattle.er_report.proofs.BuilderLemmas.{built-end, built-lines, report-named}
use Rattle.er_report.proofs.NamedLemmas.{named_states}
use Rattle.er_report.proofs.builder.ReportBuilder.finish.Goals as goal

pub returns-clause-report_by : goal.returns-clause-report_by
returns-clause-report_by c = λ a r stopped built stop.
    let before : Built = record { report = told c.self.inside.report; races = c.self.inside.races.items; rules = targets_of c.self.inside.rules.now; kept = c.self.inside.explainer } in
    built-end a before r stopped c.args.stop (subst (λ (builder : Built). IsBuiltBy a builder r (length (answered_steps r.steps stopped))) (sym c.self.view_is) built) stop
    ∙ ap (λ (builder : Built). report_by a no_reasons r builder.rules stopped) c.self.view_is

pub returns-clause-named_by : goal.returns-clause-named_by
returns-clause-named_by c = λ a r n built all sites states.
    let before : Built = record { report = told c.self.inside.report; races = c.self.inside.races.items; rules = targets_of c.self.inside.rules.now; kept = c.self.inside.explainer } in
    report-named a no_reasons r before.rules n c.self.inside.report.lines.items
    (built-lines a before r n (subst (λ (builder : Built). IsBuiltBy a builder r n) (sym c.self.view_is) built)) all sites states (λ k. All-nil (HasReasonNames r.names))

-- by the lockset rule
pub returns-clause-named : goal.returns-clause-named
unfolding IsBuilt
returns-clause-named c = λ r n built all sites. returns-clause-named_by c (answer r.steps) r n built all sites (named_states r all)

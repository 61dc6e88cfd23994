-- The lines have the reasons that were kept, if any were, and all else is as it was.
use Rattle.std.proofs.Common.{◌≡◌, ◌∙◌, is_some, length, map, Option, refl, sym, ap, subst, arith}
use Rattle.std.proofs.lemmas.List.{with_items_is}
use Rattle.er_report.specs.Builder.{Built, IsReported}
use Rattle.er_report.specs.Inner.Explained.{lines_kept}
use Rattle.er_report.specs.Kept.{Kept}
use Rattle.er_report.specs.Lines.{line_view}
use Rattle.er_report.specs.Report.{told, report_of, answered_steps}
use Rattle.er_report.specs.declared.report.Report.{Report}
use Rattle.er_rules.specs.Rules.{targets_of}
use Rattle.er_report.proofs.BuilderLemmas.{explained-end, explained-lines, report-named-at}
use Rattle.er_report.proofs.builder.ReportBuilder.finish_explained.Goals as goal
use Rattle.er_report.proofs.builder.ReportBuilder.finish_explained.Goals.{in-Some, in_default}

lines_are : (c : goal.After-drop-self-inside) → map line_view c.match-explainer.report.lines.items ≡ lines_kept c.self.inside.explainer (map line_view c.self.inside.report.lines.items)
lines_are c =
    elim c.match-explainer.branch [
      | in-Some w ↦
          let long : length w.give_reasons.new.lines ≡ c.self.inside.report.lines.len = omega (arith, w.give_reasons.auto.lines, w.deref_mut.ensures.len) in
          ap (λ (report : Report). map line_view report.lines.items) w.report-is ∙ ap (map line_view) (with_items_is c.self.inside.report.lines w.give_reasons.new.lines long)
          ∙ (rw (w.deref_mut.ensures.value, w.into_told.ensures) at w.give_reasons.ensures)
          ∙ ap (λ (kept : Option Kept). lines_kept kept (map line_view c.self.inside.report.lines.items)) (sym w.in-Some.is)
      | in_default w ↦
          ap (λ (report : Report). map line_view report.lines.items) w.report-is
          ∙ ap (λ (kept : Option Kept). lines_kept kept (map line_view c.self.inside.report.lines.items)) (sym w.in_default.is)
    ]

rest_is : (c : goal.After-drop-self-inside) → told c.match-explainer.report ≡ record (told c.self.inside.report) { lines = map line_view c.match-explainer.report.lines.items; stop = c.args.stop }
rest_is c = elim c.match-explainer.branch [ in-Some w ↦ rw w.report-is refl | in_default w ↦ rw w.report-is refl ]

pub returns-clause-report : goal.returns-clause-report
returns-clause-report c = λ r stopped reported stop.
    let before : Built = record { report = told c.self.inside.report; races = c.self.inside.races.items; rules = targets_of c.self.inside.rules.now; kept = c.self.inside.explainer } in
    rest_is c
    ∙ explained-end before r stopped _ c.args.stop (subst (λ (builder : Built). IsReported builder r (length (answered_steps r.steps stopped))) (sym c.self.view_is) reported) stop (lines_are c)
    ∙ ap (λ (builder : Built). report_of r builder.rules (is_some builder.kept) stopped) c.self.view_is

pub returns-clause-named : goal.returns-clause-named
returns-clause-named c = λ r n reported all sites.
    let before : Built = record { report = told c.self.inside.report; races = c.self.inside.races.items; rules = targets_of c.self.inside.rules.now; kept = c.self.inside.explainer } in
    report-named-at r before.rules (is_some before.kept) n c.match-explainer.report.lines.items
    (explained-lines before r n _ (subst (λ (builder : Built). IsReported builder r n) (sym c.self.view_is) reported) (lines_are c)) all sites

-- The lines have the reasons that are given, and all else is as it was.
use Rattle.std.proofs.Common.{◌≡◌, ◌∙◌, None, length, map, sym, ap, subst, arith}
use Rattle.std.proofs.lemmas.List.{with_items_is}
use Rattle.std.specs.Vec.{with_items}
use Rattle.er_report.specs.Builder.{Built, IsBuiltBy}
use Rattle.er_report.specs.Inner.Explained.{with_told}
use Rattle.er_report.specs.Lines.{line_view}
use Rattle.er_report.specs.Report.{told, report_by, answered_steps}
use Rattle.er_rules.specs.Rules.{targets_of}
use Rattle.er_report.proofs.BuilderLemmas.{report-named}
use Rattle.er_report.proofs.GivenLemmas.{given-end, given-lines}
use Rattle.er_report.proofs.builder.ReportBuilder.finish_with.Goals as goal

pub returns-clause-report_by : goal.returns-clause-report_by
returns-clause-report_by c = λ a why r accesses built given.
    let before : Built = record { report = told c.self.inside.report; races = c.self.inside.races.items; rules = targets_of c.self.inside.rules.now; kept = c.self.inside.explainer } in
    let long : length c.give_reasons.new.lines ≡ c.self.inside.report.lines.len = omega (arith, c.give_reasons.auto.lines, c.deref_mut.ensures.len) in
    let lines : map line_view (with_items c.self.inside.report.lines c.give_reasons.new.lines).items ≡ with_told (map (λ told. told.value.explained.items) c.args.reasons.items) before.report.lines =
    ap (map line_view) (with_items_is c.self.inside.report.lines c.give_reasons.new.lines long) ∙ (rw c.deref_mut.ensures.value at c.give_reasons.ensures) in
    given-end a why r accesses before (map (λ told. told.value.explained.items) c.args.reasons.items) _ (subst (λ (builder : Built). IsBuiltBy a builder r (length (answered_steps r.steps None))) (sym c.self.view_is) built)
    (given ∙ ap (λ (builder : Built). map why builder.races) (sym c.self.view_is)) lines
    ∙ ap (λ (builder : Built). report_by a why r builder.rules None) c.self.view_is

pub returns-clause-named_by : goal.returns-clause-named_by
returns-clause-named_by c = λ a why r n accesses built given all sites states reasons.
    let before : Built = record { report = told c.self.inside.report; races = c.self.inside.races.items; rules = targets_of c.self.inside.rules.now; kept = c.self.inside.explainer } in
    let long : length c.give_reasons.new.lines ≡ c.self.inside.report.lines.len = omega (arith, c.give_reasons.auto.lines, c.deref_mut.ensures.len) in
    let lines : map line_view (with_items c.self.inside.report.lines c.give_reasons.new.lines).items ≡ with_told (map (λ told. told.value.explained.items) c.args.reasons.items) before.report.lines =
    ap (map line_view) (with_items_is c.self.inside.report.lines c.give_reasons.new.lines long) ∙ (rw c.deref_mut.ensures.value at c.give_reasons.ensures) in
    report-named a why r before.rules n (with_items c.self.inside.report.lines c.give_reasons.new.lines).items
    (given-lines a why r accesses before n (map (λ told. told.value.explained.items) c.args.reasons.items) _ (subst (λ (builder : Built). IsBuiltBy a builder r n) (sym c.self.view_is) built)
    (given ∙ ap (λ (builder : Built). map why builder.races) (sym c.self.view_is)) lines) all sites states reasons

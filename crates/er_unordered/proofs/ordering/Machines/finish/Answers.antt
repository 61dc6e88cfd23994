-- The reasons that were told are those that the definitions name, in the order of the races.
use Rattle.std.proofs.Common.{◌≡◌, ◌∙◌, None, refl, sym, subst}
use Rattle.er_order.specs.ByBytes.{answer_by_bytes}
use Rattle.er_report.specs.Report.{told as summary}
use Rattle.er_unordered.specs.Answered.{HasAnswered, HasGathered, tells}
use Rattle.er_unordered.specs.Tags.{line_reason, one_told, no_tag, none_told}
use Rattle.er_unordered.specs.Reasons.{order_reasons}
use Rattle.er_unordered.specs.Reports.{unordered_report}
use Rattle.er_unordered.specs.declared.ordering.Machines.{Machines}
use Rattle.er_unordered.proofs.BytesLemmas.{no-state, races-told}
use Rattle.er_unordered.proofs.ReasonLemmas.{reasons-named, reasons-told}
use Rattle.er_unordered.proofs.ordering.Machines.finish.Goals as goal

pub returns-in-Plain-clause-report : goal.returns-in-Plain-clause-report
returns-in-Plain-clause-report c = λ touched r gathered.
    let inside : HasAnswered touched no_tag none_told c.in-Plain.machine c.args.builder c.args.told r = subst (λ (m : Machines). HasGathered touched m c.args.builder c.args.told r) c.in-Plain.is gathered in
    subst (λ (m : Machines). summary c.finish.result ≡ unordered_report r touched c.args.builder.rules (tells m)) (sym c.in-Plain.is)
    (c.finish.ensures.report_by (answer_by_bytes touched r.steps) r None inside.come.built refl)

pub returns-in-Plain-clause-named : goal.returns-in-Plain-clause-named
returns-in-Plain-clause-named c = λ touched r gathered.
    let inside : HasAnswered touched no_tag none_told c.in-Plain.machine c.args.builder c.args.told r = subst (λ (m : Machines). HasGathered touched m c.args.builder c.args.told r) c.in-Plain.is gathered in
    c.finish.ensures.named_by (answer_by_bytes touched r.steps) r _ inside.come.built inside.named inside.seen (no-state touched r.names r.steps)

pub returns-in-Telling-clause-report : goal.returns-in-Telling-clause-report
returns-in-Telling-clause-report c = λ touched r gathered.
    let inside : HasAnswered touched line_reason one_told c.in-Telling.machine c.args.builder c.args.told r = subst (λ (m : Machines). HasGathered touched m c.args.builder c.args.told r) c.in-Telling.is gathered in
    subst (λ (m : Machines). summary c.finish_with.result ≡ unordered_report r touched c.args.builder.rules (tells m)) (sym c.in-Telling.is)
    (c.finish_with.ensures.report_by (answer_by_bytes touched r.steps) (order_reasons touched r) r (races-told touched r.steps) inside.come.built
    (c.into_reasons.ensures ∙ inside.come.reasons ∙ reasons-told touched r c.args.builder.races))

pub returns-in-Telling-clause-named : goal.returns-in-Telling-clause-named
returns-in-Telling-clause-named c = λ touched r gathered.
    let inside : HasAnswered touched line_reason one_told c.in-Telling.machine c.args.builder c.args.told r = subst (λ (m : Machines). HasGathered touched m c.args.builder c.args.told r) c.in-Telling.is gathered in
    c.finish_with.ensures.named_by (answer_by_bytes touched r.steps) (order_reasons touched r) r _ (races-told touched r.steps) inside.come.built
    (c.into_reasons.ensures ∙ inside.come.reasons ∙ reasons-told touched r c.args.builder.races) inside.named inside.seen (no-state touched r.names r.steps) (reasons-named r inside.named touched)

-- Damage that is looked for comes before the reports.
use Rattle.std.proofs.Common.{◌∙◌, None, Some, subst, sym, Ok}
use Rattle.er_batch.specs.Analysts.{HasRunFor, Ran, StandsIf}
use Rattle.er_report.specs.Reports.{asks_locks, asks_order}
use Rattle.er_run.specs.Inner.Inspected.{HasFound}
use Rattle.er_run.specs.Inner.Outcomes.{IsOutcomeOf}
use Rattle.er_run.specs.declared.fault.RunFault.TheVariants.{Damaged}
use Rattle.er_run.specs.declared.outcome.ReplayedTrace.{ReplayedTrace}
use Rattle.er_unordered.specs.Ordered.{HasOrdered, OrderRan}
use Rattle.er_run.proofs.OutcomeLemmas.{failed-outcome, outcome-of}
use Rattle.er_run.proofs.PassLemmas.{found-by}
use Rattle.er_run.proofs.passes.end.Goals as goal

pub returns-in-Some-clause-outcome : goal.returns-in-Some-clause-outcome
returns-in-Some-clause-outcome c = λ asked told limit only all ends.
    let found : HasFound told limit asked.strict (Some c.in-Some.damage) =
    subst (HasFound told limit asked.strict) c.in-Some.is
    (found-by (λ r. StandsIf (λ (one : Ran). HasRunFor one asked r) (asks_locks asked.analysis) _ × StandsIf (λ (one : OrderRan). HasOrdered one asked r) (asks_order asked.analysis) _) c.args.options.now.part c.args.found.of_pages told limit asked.strict c.args.found.trace.names _ c.damage-damage.result only all
    (λ seen. c.damage-damage.ensures.found asked.strict told limit c.args.found.trace.names seen ends) c.damage-damage.ensures.lenient) in
    failed-outcome c.args.options.now.part told limit asked (Damaged c.in-Some.damage) found.1 (λ lenient. absurd (let clash = sym lenient ∙ found.0 in cc))

pub returns-in-Ok-clause-outcome : goal.returns-in-Ok-clause-outcome
returns-in-Ok-clause-outcome c = λ asked told limit only all ends.
    let found : HasFound told limit asked.strict None =
    subst (HasFound told limit asked.strict) c.in_default.is
    (found-by (λ r. StandsIf (λ (one : Ran). HasRunFor one asked r) (asks_locks asked.analysis) _ × StandsIf (λ (one : OrderRan). HasOrdered one asked r) (asks_order asked.analysis) _) c.args.options.now.part c.args.found.of_pages told limit asked.strict c.args.found.trace.names _ c.damage-damage.result only all
    (λ seen. c.damage-damage.ensures.found asked.strict told limit c.args.found.trace.names seen ends) c.damage-damage.ensures.lenient) in
    subst (λ (x : ReplayedTrace). IsOutcomeOf c.args.options.now.part told limit asked (Ok x)) (sym c.outcome.ensures.others)
    (outcome-of c.args.options.now.part c.args.found.of_pages told limit asked all.recording all.trace all.stands.1 _ _ (c.in-Ok.ensures.built asked all.recording all.stands.0.0.0 all.stands.0.0.1) c.args.found.trace all.names c.args.found.ending ends c.outcome.result.reports c.outcome.ensures.lockset c.outcome.ensures.unordered (λ strict. found strict))

pub returns-in-Err-clause-outcome : goal.returns-in-Err-clause-outcome
returns-in-Err-clause-outcome c = λ asked told limit only all ends.
    failed-outcome c.args.options.now.part told limit asked c.in-Err.why (c.in-Err.ensures.fault asked told limit all.recording all.trace all.stands.0.0.0 all.stands.0.0.1) (λ lenient. c.in-Err.ensures.undamaged)

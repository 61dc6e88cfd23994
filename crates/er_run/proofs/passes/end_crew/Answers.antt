-- Damage that is looked for comes before the report of the workers and before their fault.
use Rattle.std.proofs.Common.{◌∙◌, None, Some, subst, sym, Ok}
use Rattle.er_batch.specs.Analysts.{HasCrewRun}
use Rattle.er_report.specs.declared.reports.Analysis.{Analysis}
use Rattle.er_run.specs.Faults.{IsFaultOfText, fault_of}
use Rattle.er_run.specs.Inner.Inspected.{HasFound}
use Rattle.er_run.specs.Inner.Outcomes.{IsOutcomeOf, is_later}
use Rattle.er_run.specs.declared.fault.RunFault.{RunFault}
use Rattle.er_run.specs.declared.fault.RunFault.TheVariants.{Damaged}
use Rattle.er_run.specs.declared.outcome.ReplayedTrace.{ReplayedTrace}
use Rattle.er_run.proofs.OutcomeLemmas.{failed-outcome, outcome-of, still-whole}
use Rattle.er_run.proofs.PassLemmas.{crew-built, crew-fault, found-by}
use Rattle.er_run.proofs.SeenLemmas.{workers-no_damage}
use Rattle.er_run.proofs.passes.end_crew.Goals as goal

pub returns-in-Some-clause-outcome : goal.returns-in-Some-clause-outcome
returns-in-Some-clause-outcome c = λ asked told limit alone only all ends.
    let found : HasFound told limit asked.strict (Some c.in-Some.damage) =
    subst (HasFound told limit asked.strict) c.in-Some.is
    (found-by (HasCrewRun _ asked) c.args.options.now.part c.args.found.of_pages told limit asked.strict c.args.found.trace.names _ c.damage-damage.result only all
    (λ seen. c.damage-damage.ensures.found asked.strict told limit c.args.found.trace.names seen ends) c.damage-damage.ensures.lenient) in
    failed-outcome c.args.options.now.part told limit asked (Damaged c.in-Some.damage) found.1 (λ lenient. absurd (let clash = sym lenient ∙ found.0 in cc))

pub returns-in-Ok-clause-outcome : goal.returns-in-Ok-clause-outcome
returns-in-Ok-clause-outcome c = λ asked told limit alone only all ends.
    let found : HasFound told limit asked.strict None =
    subst (HasFound told limit asked.strict) c.in_default.is
    (found-by (HasCrewRun _ asked) c.args.options.now.part c.args.found.of_pages told limit asked.strict c.args.found.trace.names _ c.damage-damage.result only all
    (λ seen. c.damage-damage.ensures.found asked.strict told limit c.args.found.trace.names seen ends) c.damage-damage.ensures.lenient) in
    subst (λ (x : ReplayedTrace). IsOutcomeOf c.args.options.now.part told limit asked (Ok x)) (sym c.outcome.ensures.others)
    (outcome-of c.args.options.now.part c.args.found.of_pages told limit asked all.recording all.trace all.stands.1 _ _ (crew-built c.args.options.now.part asked all.recording c.in-Ok.report alone (c.in-Ok.ensures.report asked all.recording all.stands.0.0) (c.in-Ok.ensures.named asked all.recording all.stands.0.0))
    c.args.found.trace all.names c.args.found.ending ends c.outcome.result.reports c.outcome.ensures.lockset c.outcome.ensures.unordered (λ strict. found strict))

pub returns-in-Ok-clause-whole : goal.returns-in-Ok-clause-whole
returns-in-Ok-clause-whole c = still-whole (is_later c.args.options.now.part) _ _ (Some c.in-Ok.report) c.outcome.result.reports.lockset c.outcome.ensures.lockset c.in-Ok.ensures.whole

pub returns-in-Err-clause-outcome : goal.returns-in-Err-clause-outcome
returns-in-Err-clause-outcome c = λ asked told limit alone only all ends.
    failed-outcome c.args.options.now.part told limit asked c.from.result
    (subst (λ (why : RunFault). IsFaultOfText c.args.options.now.part asked.analysis told limit why) (sym c.from.ensures)
    (subst (λ (analysis : Analysis). IsFaultOfText c.args.options.now.part analysis told limit (fault_of c.in-Err.why)) (sym alone) (crew-fault c.args.options.now.part told limit all.recording c.in-Err.why all.trace (c.in-Err.ensures.fault asked all.recording all.stands.0.0))))
    (λ lenient. rw c.from.ensures (workers-no_damage c.in-Err.why))

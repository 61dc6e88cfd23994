-- The report by the lockset rule, or the room that it lacks beside another report.
use Rattle.std.proofs.Common.{◌≡◌, ◌∙◌, true, Option, IfSome, is_some, sym, subst}
use Rattle.er_batch.specs.Analysts.{HasRunFor, Ran}
use Rattle.er_report.specs.Reports.{asks_locks}
use Rattle.er_run.specs.Faults.{IsFaultOfText}
use Rattle.er_run.specs.declared.fault.RunFault.{RunFault}
use Rattle.er_run.proofs.PassLemmas.{run-built, run-fault}
use Rattle.er_run.proofs.passes.run_report.Goals as goal

pub returns-in-None-clause-built : goal.returns-in-None-clause-built
returns-in-None-clause-built c = λ part asked r same stands.
    let there : true ≡ asks_locks asked.analysis = subst (λ (o : Option Ran). is_some o ≡ asks_locks asked.analysis) c.in-Some.is stands.there in
    let inside : HasRunFor c.in-Some.lockset asked r = subst (λ (o : Option Ran). IfSome o (λ one. HasRunFor one asked r)) c.in-Some.is stands.stands in
    run-built part asked r c.in-Some.lockset inside c.finish.result (sym there) (λ unstopped. sym c.stop.ensures ∙ c.cause_if.ensures.none c.in-None.is (sym same ∙ unstopped))
    (c.finish.ensures.report asked r inside) (c.finish.ensures.named asked r inside)

pub returns-in-Some-cause_if-clause-fault : goal.returns-in-Some-cause_if-clause-fault
returns-in-Some-cause_if-clause-fault c = λ part asked told limit r trace same stands.
    let there : true ≡ asks_locks asked.analysis = subst (λ (o : Option Ran). is_some o ≡ asks_locks asked.analysis) c.in-Some.is stands.there in
    let inside : HasRunFor c.in-Some.lockset asked r = subst (λ (o : Option Ran). IfSome o (λ one. HasRunFor one asked r)) c.in-Some.is stands.stands in
    let due = c.cause_if.ensures.some c.in-Some-cause_if.cause c.in-Some-cause_if.is in
    subst (λ (why : RunFault). IsFaultOfText part asked.analysis told limit why) (sym c.from.ensures)
    (run-fault part asked r c.in-Some.lockset inside told limit due.1.0 c.in-Some-cause_if.cause (sym there) (same ∙ due.0) (sym c.stop.ensures ∙ due.1.1) trace)

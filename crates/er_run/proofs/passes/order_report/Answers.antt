-- The report by happens-before, or why it has stopped.
use Rattle.std.proofs.Common.{◌≡◌, ◌∙◌, ◌&&◌, Bool, true, Option, IfSome, is_some, sym, ap, subst}
use Rattle.er_report.specs.Reports.{asks_order}
use Rattle.er_run.specs.Faults.{IsFaultOfText}
use Rattle.er_run.specs.declared.fault.RunFault.{RunFault}
use Rattle.er_unordered.specs.Ordered.{HasOrdered, OrderRan}
use Rattle.er_unordered.specs.Reports.{has_order}
use Rattle.er_run.proofs.PassLemmas.{order-fault}
use Rattle.er_run.proofs.passes.order_report.Goals as goal

pub returns-in-Ok-clause-built : goal.returns-in-Ok-clause-built
returns-in-Ok-clause-built c = λ asked r stands.
    let there : true ≡ asks_order asked.analysis = subst (λ (o : Option OrderRan). is_some o ≡ asks_order asked.analysis) c.in-Some.is stands.there in
    let inside : HasOrdered c.in-Some.ordering asked r = subst (λ (o : Option OrderRan). IfSome o (λ one. HasOrdered one asked r)) c.in-Some.is stands.stands in
    record {
      there = there;
      says = c.in-Ok.ensures.report asked r inside;
      names = c.in-Ok.ensures.named asked r inside;
      order = c.has_order-has_order.ensures asked r inside ∙ ap (λ (b : Bool). b && has_order r.steps) there;
    }

pub returns-in-Err-clause-fault : goal.returns-in-Err-clause-fault
returns-in-Err-clause-fault c = λ part asked told limit r trace stands.
    let there : true ≡ asks_order asked.analysis = subst (λ (o : Option OrderRan). is_some o ≡ asks_order asked.analysis) c.in-Some.is stands.there in
    let inside : HasOrdered c.in-Some.ordering asked r = subst (λ (o : Option OrderRan). IfSome o (λ one. HasOrdered one asked r)) c.in-Some.is stands.stands in
    subst (λ (why : RunFault). IsFaultOfText part asked.analysis told limit why) (sym c.from.ensures)
    (order-fault part asked.analysis told limit r c.in-Err.why (sym there) trace (c.in-Err.ensures.fault asked r inside))

-- Of steps that were all answered there is the report by the bytes that are known.
use Rattle.std.proofs.Common.{sym, subst}
use Rattle.er_unordered.specs.Ordered.{HasGatheredFor, HasOrdered, OrderRan}
use Rattle.er_unordered.proofs.StoppingLemmas.{gathered-some, report-by}
use Rattle.er_unordered.proofs.ordering.OrderAnalyst.finish.Goals as goal

pub returns-in-None-clause-report : goal.returns-in-None-clause-report
returns-in-None-clause-report c = λ asked r ordered.
    let inside : OrderRan = record { machine = c.self.inside.machine; built = c.self.inside.report; told = c.self.inside.told; stop = c.self.inside.stop; has_order = c.self.inside.has_order } in
    let stands : HasOrdered inside asked r = subst (λ (ran : OrderRan). HasOrdered ran asked r) (sym c.self.view_is) ordered in
    report-by inside asked r c.finish.result (stands.all c.in-None.is) (λ touched. c.finish.ensures.report touched r)

pub returns-in-None-clause-named : goal.returns-in-None-clause-named
returns-in-None-clause-named c = λ asked r ordered.
    let inside : OrderRan = record { machine = c.self.inside.machine; built = c.self.inside.report; told = c.self.inside.told; stop = c.self.inside.stop; has_order = c.self.inside.has_order } in
    let stands : HasOrdered inside asked r = subst (λ (ran : OrderRan). HasOrdered ran asked r) (sym c.self.view_is) ordered in
    let all : HasGatheredFor inside asked r = stands.all c.in-None.is in
    c.finish.ensures.named all.touched r (gathered-some inside asked r all)

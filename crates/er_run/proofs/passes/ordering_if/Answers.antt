use Rattle.std.proofs.Common.{◌∙◌, ap, sym}
use Rattle.er_report.specs.Reports.{asks_order}
use Rattle.er_run.proofs.passes.ordering_if.Goals as goal

pub returns : goal.returns
returns c = record {
  stands = λ asked same rules explain. record { there = sym (ap asks_order same ∙ sym c.asks_order.ensures ∙ c.if-not-asks_order.false); stands = c.in_ok-ordering.ensures.stands asked rules explain };
}

pub returns-then-not-asks_order : goal.returns-then-not-asks_order
returns-then-not-asks_order c = record {
  stands = λ asked same rules explain. record { there = sym (ap asks_order same ∙ sym c.asks_order.ensures ∙ c.if-not-asks_order.true); stands = tt };
}

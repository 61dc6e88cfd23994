-- What has stopped stays so, and what hasn't goes on or stops in the batch.
use Rattle.std.proofs.Common.{◌∙◌, refl, sym, subst}
use Rattle.er_batch.specs.Runs.{recorded}
use Rattle.er_unordered.specs.Ordered.{HasOrdered, OrderRan}
use Rattle.er_unordered.proofs.StoppingLemmas.{goes-on, stopped-on, stops}
use Rattle.er_unordered.proofs.ordering.OrderAnalystAnalyst.answer.Goals as goal

pub returns-then-is_some : goal.returns-then-is_some
returns-then-is_some g c = record {
  goes_on = λ asked past lines sites names more kept ordered agree.
      let inside : OrderRan = record { machine = c.self.inside.machine; built = c.self.inside.report; told = c.self.inside.told; stop = c.self.inside.stop; has_order = c.self.inside.has_order } in
      stopped-on inside _ asked past lines sites names c.args.trace.now (sym c.is_some.ensures ∙ c.if-is_some.true) refl (rw c.steps-steps.ensures.value at c.with_order-self-inside.ensures)
      (subst (λ (ran : OrderRan). HasOrdered ran asked (recorded past lines sites names)) (sym c.self.view_is) ordered);
}

pub returns-in-Ok : goal.returns-in-Ok
returns-in-Ok g c = record {
  goes_on = λ asked past lines sites names more kept ordered agree.
      let inside : OrderRan = record { machine = c.self.inside.machine; built = c.self.inside.report; told = c.self.inside.told; stop = c.self.inside.stop; has_order = c.self.inside.has_order } in
      goes-on inside _ asked past lines sites names c.args.trace.now c.args.touches.now c.lines.ensures.one_per_step agree (sym c.is_some.ensures ∙ c.if-is_some.false) refl (rw c.steps-steps.ensures.value at c.with_order-self-inside.ensures)
      (subst (λ (ran : OrderRan). HasOrdered ran asked (recorded past lines sites names)) (sym c.self.view_is) ordered)
      (λ touched. c.in-Ok.ensures.run touched past lines sites names kept) c.in-Ok.ensures.rules c.in-Ok.ensures.tells;
}

pub returns-in-Err : goal.returns-in-Err
returns-in-Err g c = record {
  goes_on = λ asked past lines sites names more kept ordered agree.
      let inside : OrderRan = record { machine = c.self.inside.machine; built = c.self.inside.report; told = c.self.inside.told; stop = c.self.inside.stop; has_order = c.self.inside.has_order } in
      stops inside _ asked past lines sites names c.args.trace.now c.args.touches.now c.lines.ensures.one_per_step agree c.in-Err.why (sym c.is_some.ensures ∙ c.if-is_some.false) refl (rw c.steps-steps.ensures.value at c.with_order-self-inside.ensures)
      (subst (λ (ran : OrderRan). HasOrdered ran asked (recorded past lines sites names)) (sym c.self.view_is) ordered)
      (λ touched. c.in-Err.ensures.full touched past lines sites names kept);
}

-- The inspector goes on by the steps of the batch.
use Rattle.std.proofs.Common.{Option, Some, subst}
use Rattle.er_batch.specs.Runs.{recorded}
use Rattle.er_damage.specs.Standing.{Inspected}
use Rattle.er_run.specs.Inner.Inspected.{IsInspected}
use Rattle.er_run.proofs.SeenLemmas.{followed}
use Rattle.er_run.proofs.inspecting.InspectionAnalyst.answer.Goals as goal

pub returns-in-Some : goal.returns-in-Some
returns-in-Some g c = record {
  goes_on = λ asked past lines sites names more kept seen agree.
      let inside : IsInspected (Some c.in-Some.inspector) asked.strict (recorded past lines sites names) =
      subst (λ (o : Option Inspected). IsInspected o asked.strict (recorded past lines sites names)) c.in-Some.is seen in
      followed _ _ c.follow.result c.in-Some.inspector c.follow.new.self asked.strict past lines sites names c.args.trace.now c.lines-lines.ensures.one_per_step inside
      (rw (c.steps-steps.ensures.value, c.lines-lines.ensures.value) at (c.follow.ensures.goes_on past lines inside.even inside.stands));
}

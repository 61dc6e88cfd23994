use Rattle.std.proofs.Common.{◌∙◌, Bool, subst, sym}
use Rattle.er_run.specs.Inner.Inspected.{IsInspected}
use Rattle.er_trace.specs.Trace.{no_steps}
use Rattle.er_run.proofs.passes.analysts_of.Goals as goal

pub returns : goal.returns
returns c = record {
  stands = λ asked same rules explain strict. ((c.in_ok-lockset.ensures.stands asked same rules explain, c.in_ok-ordering.ensures.stands asked same rules explain), subst (λ (b : Bool). IsInspected c.new.result.inspector b no_steps) (c.looks_for_damage.ensures ∙ sym strict) c.new.ensures);
}

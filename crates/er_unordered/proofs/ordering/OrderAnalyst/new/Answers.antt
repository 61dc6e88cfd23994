-- Before any step it stands for none, whatever accesses touch.
use Rattle.std.proofs.Common.{[], ◌∙◌, sym}
use Rattle.er_order.specs.ByBytes.{answer_by_bytes}
use Rattle.er_trace.specs.Trace.{no_steps}
use Rattle.er_unordered.proofs.StoppingLemmas.{begun}
use Rattle.er_unordered.proofs.ordering.OrderAnalyst.new.Goals as goal

pub returns : goal.returns
returns c = record {
  stands = λ asked rules explain. rw c.new-3.ensures
      (begun c.new-2.result c.in_ok-report.report asked (λ touched. c.new-2.ensures.start touched c.in_ok-report.report (c.in_ok-report.ensures.built_by (answer_by_bytes touched []) no_steps))
      (c.in_ok-report.ensures.rules ∙ sym rules) (c.new-2.ensures.tells ∙ sym explain));
}

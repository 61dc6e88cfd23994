use Rattle.std.proofs.Common.{◌≡◌, ◌+◌, ◌-◌, ◌++◌, ◌≤◌, ℕ, List, length, is_some}
use Rattle.er_event.specs.declared.steps.Step.{Step}
use Rattle.er_parallel.specs.Crews.{Rise}
use Rattle.er_report.specs.Builder.{IsReported}
use Rattle.er_batch.specs.Inner.Items.{AreItems, Holds, IsNext}
use Rattle.er_text.specs.Batches.{joined}
use Rattle.er_batch.proofs.crew.add_items.Given as goal

-- behind any steps that were answered, the report has the first k steps of the batch, the items of these k steps are behind, and what
-- threads hold after them is known if reasons are wanted
abbrev pub invariant-loop-k : goal.invariant-loop-k
invariant-loop-k l = record {
  steps : l.builder.report.steps ≡ l.fn.builder.report.steps + l.k;
  rules : l.builder.rules ≡ l.fn.builder.rules;
  explains : is_some l.builder.kept ≡ is_some l.fn.builder.kept;
  within : l.next ≤ l.k;
  inside : l.k ≤ length l.steps;
  place : Rise l.items → IsNext l.items l.next l.k;
  holds : (past : List Step) → Holds (is_some l.fn.builder.kept) l.fn.holder (past ++ l.trace.steps) (length past) → Holds (is_some l.fn.builder.kept) l.holder (past ++ l.trace.steps) (length past + l.k);
  reported : (past : List Step) (lines sites : List ℕ) → length lines ≡ length past → length sites ≡ length past → AreItems (is_some l.fn.builder.kept) past l.trace.steps l.items
      → Holds (is_some l.fn.builder.kept) l.fn.holder (past ++ l.trace.steps) (length past) → IsReported l.fn.builder (joined past lines sites l.trace) (length past) → IsReported l.builder (joined past lines sites l.trace) (length past + l.k);
}

abbrev pub decreases-loop-k : goal.decreases-loop-k
decreases-loop-k l = length l.steps - l.k

use Rattle.std.proofs.Common.{◌≡◌, ◌+◌, ℕ, List, length, is_some}
use Rattle.er_event.specs.declared.steps.Step.{Step}
use Rattle.er_batch.specs.Inner.Answering.{HasAnswered, HasComeTo}
use Rattle.er_text.specs.Batches.{joined}
use Rattle.er_batch.proofs.answering.answer_steps.Given as goal

-- behind any steps that were answered, the machine stands for these and the first k steps of the trace, and the report lags behind by the
-- steps that are counted
abbrev pub invariant-loop-k : goal.invariant-loop-k
invariant-loop-k l = record {
  steps : l.builder.report.steps + l.plain ≡ l.fn.builder.report.steps + l.k;
  rules : l.builder.rules ≡ l.fn.builder.rules;
  explains : is_some l.builder.kept ≡ is_some l.fn.builder.kept;
  run : (past : List Step) (lines sites : List ℕ) → length lines ≡ length past → length sites ≡ length past → HasAnswered l.fn.machine l.fn.builder (joined past lines sites l.trace) (length past)
      → HasComeTo l.machine l.builder (joined past lines sites l.trace) (length past + l.k) l.plain;
}

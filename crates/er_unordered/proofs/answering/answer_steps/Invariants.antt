use Rattle.std.proofs.Common.{◌≡◌, ◌≤◌, ◌+◌, ℕ, List, drop, length}
use Rattle.er_batch.specs.Touching.{touch_on}
use Rattle.er_event.specs.declared.steps.Step.{Step}
use Rattle.er_order.specs.ByBytes.{Touched}
use Rattle.er_text.specs.Batches.{joined}
use Rattle.er_unordered.specs.Reports.{TouchAs}
use Rattle.er_unordered.specs.Answered.{HasComeTo}
use Rattle.er_unordered.proofs.answering.answer_steps.Given as goal

-- behind any steps that were answered, the machine stands for these and the first k steps of the trace, and the report and what is told are theirs
abbrev pub invariant-loop-k : goal.invariant-loop-k
invariant-loop-k g l = record {
  steps : l.builder.report.steps ≡ l.fn.builder.report.steps + l.k;
  rules : l.builder.rules ≡ l.fn.builder.rules;
  later : (line : ℕ) → l.last ≤ line → touch_on (drop l.place l.fn.touches) line ≡ touch_on l.fn.touches line;
  run : (touched : Touched) (past : List Step) (lines sites : List ℕ) → length lines ≡ length past → length sites ≡ length past → TouchAs touched l.fn.touches l.trace.lines (length past)
      → HasComeTo touched g.T.Tag.tag_of g.T.Tag.told_of l.fn.machine l.fn.builder l.fn.told (joined past lines sites l.trace) (length past)
      → HasComeTo touched g.T.Tag.tag_of g.T.Tag.told_of l.machine l.builder l.told (joined past lines sites l.trace) (length past + l.k);
}

use Rattle.std.proofs.Common.{◌≡◌, ◌≤◌, ℕ, length, is_some}
use Rattle.er_held.specs.ThreadLocks.{held_by}
use Rattle.er_model.specs.Holdings.{holdings_at}
use Rattle.er_report.specs.Builder.{IsReported}
use Rattle.er_report.specs.Report.{answered_steps}
use Rattle.er_report.proofs.summary.add_steps.Given as goal

-- the report and the holdings are those of the first k steps, all of them answered
abbrev pub invariant-loop-k : goal.invariant-loop-k
invariant-loop-k l = record {
  built : IsReported l.builder l.trace l.k;
  explains : is_some l.builder.kept ≡ is_some l.fn.builder.kept;
  rules : l.builder.rules ≡ l.fn.builder.rules;
  held : (t : ℕ) → held_by l.locks t ≡ holdings_at l.trace.steps t l.k;
  within : l.k ≤ length (answered_steps l.trace.steps l.outcome.stopped);
}

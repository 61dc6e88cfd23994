-- What the lines behind say from here on, all of them say from the first on.
use Rattle.std.proofs.Common.{◌≡◌, ℕ, ◌-◌, ◌≤◌, [], length, drop}
use Rattle.er_trace.specs.Trace.{Recording}
use Rattle.er_text.specs.declared.stages.Stage.TheVariants.{Events}
use Rattle.er_text.specs.Inner.Pieces.{AreRead}
use Rattle.er_text.specs.Ending.{comment_after}
use Rattle.er_lines.specs.Lines.{lines_of, placed_from}
use Rattle.er_text.proofs.pieces.read_lines.Given as goal

abbrev pub invariant-loop-at : goal.invariant-loop-at
invariant-loop-at l = record {
  stage : l.header.stage ≡ Events l.version;
  idle : l.header.idle ≡ [];
  within : l.at ≤ length l.bytes;
  few : l.line ≤ l.at;
  goes_on : (m : ℕ) (t : Recording) → AreRead l.version (lines_of (drop l.at l.bytes)) l.line l.trace m t → AreRead l.version (lines_of l.bytes) 0 l.fn.trace m t;
  comments : comment_after l.header.comment (placed_from l.line 0 (lines_of (drop l.at l.bytes))) ≡ comment_after l.fn.header.comment (placed_from 0 0 (lines_of l.bytes));
}

abbrev pub decreases-loop-at : goal.decreases-loop-at
decreases-loop-at l = length l.bytes - l.at

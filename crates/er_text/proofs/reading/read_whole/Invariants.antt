-- The lines so far were read, one behind the other, and the others are left.
use Rattle.std.proofs.Common.{ℕ, ◌+◌, ◌-◌, ◌≤◌, ◌++◌, List, drop, length}
use Rattle.er_text.specs.Inner.Ahead.{AreEndedOn, AreReadOn}
use Rattle.er_text.specs.Inner.Traces.{at_line}
use Rattle.er_text.specs.Named.{Grows}
use Rattle.er_text.proofs.reading.read_whole.Given as goal

abbrev pub invariant-loop-count : goal.invariant-loop-count
invariant-loop-count l = record {
  on : (limit start : ℕ) (tail : List ℕ) → start + length l.bytes ≤ limit
      → AreReadOn limit l.number start (l.bytes ++ tail) (l.number + l.count) (start + l.at) (drop l.at l.bytes ++ tail) (at_line l.number l.fn.header.stage l.fn.header.idle l.fn.trace) (at_line (l.number + l.count) l.header.stage l.header.idle l.trace);
  ends : (start : ℕ) (tail : List ℕ)
      → AreEndedOn l.number start (l.bytes ++ tail) (l.number + l.count) (start + l.at) (drop l.at l.bytes ++ tail) (record { cut = l.fn.cut; comment = l.fn.header.comment }) (record { cut = l.cut; comment = l.header.comment });
  grows : Grows l.fn.trace l.trace;
  few : l.count ≤ l.most_lines;
  passed : l.count ≤ l.at;
  within : l.at ≤ length l.bytes;
}

abbrev pub decreases-loop-count : goal.decreases-loop-count
decreases-loop-count l = l.most_lines - l.count

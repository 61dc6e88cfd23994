-- The lines so far were read, one behind the other.
use Rattle.std.proofs.Common.{◌≡◌, ◌+◌, ◌≤◌, false}
use Rattle.er_device.specs.Device.{inner_of, has_failed, taken_of}
use Rattle.er_text.specs.Named.{Grows}
use Rattle.er_text.specs.Inner.Endings.{KeepsTail}
use Rattle.er_lines.specs.Lending.{taken_by, lines_left}
use Rattle.er_lines.specs.Reading.{Continues}
use Rattle.er_lines.specs.Touches.{StaysKnown}
use Rattle.er_text.specs.Inner.Numbers.{AreRight}
use Rattle.er_text.specs.Inner.Traces.{progress, read_content}
use Rattle.er_text.proofs.reading.TraceReader.read_batch.Given as goal

abbrev pub invariant-loop-left : goal.invariant-loop-left
invariant-loop-left g l = record {
  goes_on : Continues l.fn.self.place.limit read_content (lines_left l.fn.self.place (g.R.Read.remaining (inner_of l.fn.reader))) (lines_left l.self.place (g.R.Read.remaining (inner_of l.reader)))
      (progress l.fn.self l.fn.trace) (progress l.self l.trace);
  tail : KeepsTail (lines_left l.fn.self.place (g.R.Read.remaining (inner_of l.fn.reader))) (lines_left l.self.place (g.R.Read.remaining (inner_of l.reader))) l.fn.self.tail l.self.tail;
  grows : Grows l.fn.trace l.trace;
  right : AreRight (g.S.Shortcut.names_of (inner_of l.reader)) l.trace.names l.numbers;
  limit : l.self.place.limit ≡ l.fn.self.place.limit;
  within : l.self.place.start ≤ l.self.place.limit;
  most : taken_by l.self.place ≤ l.self.place.limit + 1025;
  working : has_failed l.reader ≡ false;
  taken : taken_of l.reader + taken_by l.fn.self.place ≤ taken_of l.fn.reader + taken_by l.self.place;
  touches : StaysKnown (g.S.Shortcut.touches (inner_of l.fn.reader)) (g.S.Shortcut.touches (inner_of l.reader));
  few : l.left ≤ l.most_lines;
  passed : l.fn.self.place.start + l.most_lines ≤ l.self.place.start + l.left;
}

abbrev pub decreases-loop-left : goal.decreases-loop-left
decreases-loop-left g l = l.left

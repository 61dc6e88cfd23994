use Rattle.std.proofs.Common.{◌≡◌, ◌+◌, ◌-◌, ◌≤◌, false, []}
use Rattle.er_device.specs.Device.{inner_of, has_failed, taken_of}
use Rattle.er_lines.specs.Lending.{taken_by, lines_from, lines_left}
use Rattle.er_lines.specs.Reading.{Continues}
use Rattle.er_text.specs.Inner.Numbers.{AreRight}
use Rattle.er_text.specs.Inner.Traces.{progress, at_front, read_content}
use Rattle.er_text.proofs.reading.TraceReader.read_left.Given as goal

abbrev pub invariant-loop-numbers : goal.invariant-loop-numbers
invariant-loop-numbers g l = record {
  goes_on : Continues l.fn.self.place.limit read_content (lines_from 1 0 (g.R.Read.remaining (inner_of l.fn.reader))) (lines_left l.self.place (g.R.Read.remaining (inner_of l.reader))) at_front (progress l.self l.trace);
  limit : l.self.place.limit ≡ l.fn.self.place.limit;
  within : l.self.place.start ≤ l.fn.self.place.limit;
  working : has_failed l.reader ≡ false;
  right : AreRight (λ kind n. []) l.trace.names l.numbers;
  taken : taken_of l.reader + taken_by l.fn.self.place ≤ taken_of l.fn.reader + taken_by l.self.place;
}

abbrev pub decreases-loop-numbers : goal.decreases-loop-numbers
decreases-loop-numbers g l = l.fn.self.place.limit + 1 - l.self.place.start

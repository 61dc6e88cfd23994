-- What was read was written, and the output has not failed.
use Rattle.std.proofs.Common.{◌≡◌, false, length}
use Rattle.er_device.specs.Device.{inner_of, has_failed}
use Rattle.eraser.proofs.PrintLemmas.{HasPassed}
use Rattle.eraser.proofs.traces.print_text.Given as goal

abbrev pub invariant-loop : goal.invariant-loop
invariant-loop g l = record {
  passed : HasPassed (g.D.Read.remaining (inner_of l.fn.source)) (g.D.Read.remaining (inner_of l.source)) (g.O.Write.contents (inner_of l.fn.output)) (g.O.Write.contents (inner_of l.output));
  working : has_failed l.output ≡ false;
  room : length l.buffer ≡ 65536;
}

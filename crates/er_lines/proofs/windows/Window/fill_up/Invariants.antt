use Rattle.std.proofs.Common.{◌≡◌, ◌+◌, ◌-◌, ◌≤◌, length, vec_len}
use Rattle.std.specs.Io.KnownBytes.{Keeps, prepend_known}
use Rattle.er_device.specs.Device.{inner_of, has_failed, taken_of}
use Rattle.er_lines.specs.Inner.Windows.{items}
use Rattle.er_lines.specs.Ready.{KeepsNames}
use Rattle.er_lines.specs.Touches.{StaysKnown}
use Rattle.er_lines.proofs.windows.Window.fill_up.Given as goal

abbrev pub invariant-loop-self : goal.invariant-loop-self
invariant-loop-self g l = record {
  same : Keeps (prepend_known (items l.fn.self) (g.R.Read.remaining (inner_of l.fn.reader))) (prepend_known (items l.self) (g.R.Read.remaining (inner_of l.reader)));
  start : l.self.start ≡ 0;
  within : l.self.end ≤ l.stop;
  room : l.stop ≤ vec_len l.self.bytes;
  most : l.stop ≤ l.most;
  failed : has_failed l.reader ≡ has_failed l.fn.reader;
  taken : taken_of l.reader + length (items l.fn.self) ≤ taken_of l.fn.reader + length (items l.self);
  names : KeepsNames (g.S.Shortcut.names_of (inner_of l.fn.reader)) (g.S.Shortcut.names_of (inner_of l.reader));
  touches : StaysKnown (g.S.Shortcut.touches (inner_of l.fn.reader)) (g.S.Shortcut.touches (inner_of l.reader));
}

abbrev pub decreases-loop-self : goal.decreases-loop-self
decreases-loop-self g l = l.stop - l.self.end

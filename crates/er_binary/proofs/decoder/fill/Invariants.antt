-- What was read so far and what is still to be read are the same bytes as before.
use Rattle.std.proofs.Common.{◌≤◌, ◌-◌, length, take}
use Rattle.std.specs.Io.KnownBytes.{Keeps, prepend_known}
use Rattle.er_binary.proofs.decoder.fill.Given as goal

abbrev pub invariant-loop-held : goal.invariant-loop-held
invariant-loop-held g l = record {
  within : l.held ≤ length l.bytes;
  grown : l.fn.held ≤ l.held;
  same : Keeps (prepend_known (take l.fn.held l.fn.bytes) (g.R.Read.remaining l.fn.reader)) (prepend_known (take l.held l.bytes) (g.R.Read.remaining l.reader));
}

abbrev pub decreases-loop-held : goal.decreases-loop-held
decreases-loop-held g l = length l.bytes - l.held

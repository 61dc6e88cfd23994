-- What is still to be given stays the same until some is given.
use Rattle.std.proofs.Common.{◌≡◌, ◌<◌, true, length, option_map}
use Rattle.std.specs.Io.KnownBytes.{Keeps}
use Rattle.er_binary.specs.Inner.Decoders.{still, to_note}
use Rattle.er_binary.specs.States.{names_in}
use Rattle.er_lines.specs.Ready.{KeepsNames}
use Rattle.er_lines.specs.Touches.{StaysKnown}
use Rattle.er_binary.proofs.decoder.Decoder.read.Given as goal

abbrev pub invariant-loop : goal.invariant-loop
invariant-loop g l = record {
  room : 0 < length l.buffer;
  same : Keeps (option_map (still l.fn.self) (g.R.Read.remaining l.fn.reader)) (option_map (still l.self) (g.R.Read.remaining l.reader));
  kept : KeepsNames (names_in l.fn.self.state) (names_in l.self.state);
  on : l.self.notes.is_on ≡ l.fn.self.notes.is_on;
  noted : l.fn.self.notes.is_on ≡ true → StaysKnown (option_map (to_note l.fn.self) (g.R.Read.remaining l.fn.reader)) (option_map (to_note l.self) (g.R.Read.remaining l.reader));
}

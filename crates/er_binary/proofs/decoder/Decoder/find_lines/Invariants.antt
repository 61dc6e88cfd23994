-- What is still to be given stays the same until a line is found.
use Rattle.er_binary.specs.Inner.Decoders.{GoesOn}
use Rattle.er_binary.proofs.decoder.Decoder.find_lines.Given as goal

abbrev pub invariant-loop : goal.invariant-loop
invariant-loop l = record { goes : GoesOn l.fn.self l.self }

-- The words in front of the rest are mixed in.
use Rattle.std.proofs.Common.{◌≡◌, length}
use Rattle.er_binary.specs.Meaning.{mixed_all}
use Rattle.er_binary.proofs.decoder.checksum.Given as goal

abbrev pub invariant-loop-word : goal.invariant-loop-word
invariant-loop-word l = record { same : mixed_all l.sum l.rest ≡ mixed_all l.initial.sum l.bytes }

abbrev pub decreases-loop-word : goal.decreases-loop-word
decreases-loop-word l = length l.rest

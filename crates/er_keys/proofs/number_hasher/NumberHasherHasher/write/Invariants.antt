use Rattle.std.proofs.Common.{◌≡◌, take, fold}
use Rattle.er_keys.specs.Mixing.{with_word}
use Rattle.er_keys.proofs.number_hasher.NumberHasherHasher.write.Given as goal

abbrev pub invariant-loop-byte : goal.invariant-loop-byte
invariant-loop-byte l = l.self ≡ fold with_word l.fn.self (take l.byte-index l.bytes)

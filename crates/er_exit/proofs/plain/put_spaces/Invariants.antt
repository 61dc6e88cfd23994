use Rattle.std.proofs.Common.{◌≡◌, ◌++◌, ℕ, take, map, flat_map}
use Rattle.er_exit.specs.Plain.{shown_byte}
use Rattle.er_exit.proofs.plain.put_spaces.Given as goal

abbrev pub invariant-loop-byte : goal.invariant-loop-byte
invariant-loop-byte l = l.out.items ≡ l.fn.out.items ++ map (λ (byte : ℕ). 32) (flat_map shown_byte (take l.byte-index l.bytes))

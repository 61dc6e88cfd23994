use Rattle.std.proofs.Common.{◌≡◌, drop}
use Rattle.er_merge.specs.Headings.{digest_each}
use Rattle.er_merge.proofs.headings.digest_each.Given as goal

abbrev pub invariant-loop-byte : goal.invariant-loop-byte
invariant-loop-byte l = digest_each l.digest (drop l.byte-index l.bytes) ≡ digest_each l.fn.digest l.bytes

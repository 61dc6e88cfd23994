-- The bytes are the digits of the number, and there are zeros above them.
use Rattle.std.proofs.Common.{◌+◌, ◌*◌, get_or, arith}
use Rattle.er_trace.proofs.DigitLemmas.{from_here, from_end, unpacked_digits}
use Rattle.er_trace.proofs.recent.packed_eight.Goals as goal

pub returns-in-len8 : goal.returns-in-len8
returns-in-len8 c =
    let bytes = c.args.bytes.now in
    unpacked_digits bytes _ (λ k. omega (arith, c.type_inv.bytes k))
    (from_here bytes 0 _ (get_or bytes 1 0 + get_or bytes 2 0 * 256 + get_or bytes 3 0 * 65536 + get_or bytes 4 0 * 16777216 + get_or bytes 5 0 * 4294967296 + get_or bytes 6 0 * 1099511627776 + get_or bytes 7 0 * 281474976710656) (from_here bytes 1 (get_or bytes 1 0 + get_or bytes 2 0 * 256 + get_or bytes 3 0 * 65536 + get_or bytes 4 0 * 16777216 + get_or bytes 5 0 * 4294967296 + get_or bytes 6 0 * 1099511627776 + get_or bytes 7 0 * 281474976710656) (get_or bytes 2 0 + get_or bytes 3 0 * 256 + get_or bytes 4 0 * 65536 + get_or bytes 5 0 * 16777216 + get_or bytes 6 0 * 4294967296 + get_or bytes 7 0 * 1099511627776) (from_here bytes 2 (get_or bytes 2 0 + get_or bytes 3 0 * 256 + get_or bytes 4 0 * 65536 + get_or bytes 5 0 * 16777216 + get_or bytes 6 0 * 4294967296 + get_or bytes 7 0 * 1099511627776) (get_or bytes 3 0 + get_or bytes 4 0 * 256 + get_or bytes 5 0 * 65536 + get_or bytes 6 0 * 16777216 + get_or bytes 7 0 * 4294967296) (from_here bytes 3 (get_or bytes 3 0 + get_or bytes 4 0 * 256 + get_or bytes 5 0 * 65536 + get_or bytes 6 0 * 16777216 + get_or bytes 7 0 * 4294967296) (get_or bytes 4 0 + get_or bytes 5 0 * 256 + get_or bytes 6 0 * 65536 + get_or bytes 7 0 * 16777216) (from_here bytes 4 (get_or bytes 4 0 + get_or bytes 5 0 * 256 + get_or bytes 6 0 * 65536 + get_or bytes 7 0 * 16777216) (get_or bytes 5 0 + get_or bytes 6 0 * 256 + get_or bytes 7 0 * 65536) (from_here bytes 5 (get_or bytes 5 0 + get_or bytes 6 0 * 256 + get_or bytes 7 0 * 65536) (get_or bytes 6 0 + get_or bytes 7 0 * 256) (from_here bytes 6 (get_or bytes 6 0 + get_or bytes 7 0 * 256) (get_or bytes 7 0) (from_here bytes 7 (get_or bytes 7 0) 0 (from_end bytes 8 (omega arith)) (omega arith)) (omega arith)) (omega arith)) (omega arith)) (omega arith)) (omega arith)) (omega arith)) (omega (arith, c.from_le_bytes.ensures)))

-- The bytes are the digits of the number, and there are zeros above them.
use Rattle.std.proofs.Common.{◌+◌, ◌*◌, get_or, arith}
use Rattle.er_trace.proofs.DigitLemmas.{from_here, from_end, unpacked_digits}
use Rattle.er_trace.proofs.recent.packed.Goals as goal

pub returns-in-len1 : goal.returns-in-len1
returns-in-len1 c =
    let bytes = c.args.bytes.now in
    unpacked_digits bytes _ (λ k. omega (arith, c.type_inv.bytes k))
    (from_here bytes 0 _ 0 (from_end bytes 1 (omega arith)) (omega (arith, c.from_le_bytes.ensures)))

pub returns-in-len2 : goal.returns-in-len2
returns-in-len2 c =
    let bytes = c.args.bytes.now in
    unpacked_digits bytes _ (λ k. omega (arith, c.type_inv.bytes k))
    (from_here bytes 0 _ (get_or bytes 1 0) (from_here bytes 1 (get_or bytes 1 0) 0 (from_end bytes 2 (omega arith)) (omega arith)) (omega (arith, c.from_le_bytes-in-len2.ensures)))

pub returns-in-len3 : goal.returns-in-len3
returns-in-len3 c =
    let bytes = c.args.bytes.now in
    unpacked_digits bytes _ (λ k. omega (arith, c.type_inv.bytes k))
    (from_here bytes 0 _ (get_or bytes 1 0 + get_or bytes 2 0 * 256) (from_here bytes 1 (get_or bytes 1 0 + get_or bytes 2 0 * 256) (get_or bytes 2 0) (from_here bytes 2 (get_or bytes 2 0) 0 (from_end bytes 3 (omega arith)) (omega arith)) (omega arith)) (omega (arith, c.from_le_bytes-in-len3.ensures)))

pub returns-in-len4 : goal.returns-in-len4
returns-in-len4 c =
    let bytes = c.args.bytes.now in
    unpacked_digits bytes _ (λ k. omega (arith, c.type_inv.bytes k))
    (from_here bytes 0 _ (get_or bytes 1 0 + get_or bytes 2 0 * 256 + get_or bytes 3 0 * 65536) (from_here bytes 1 (get_or bytes 1 0 + get_or bytes 2 0 * 256 + get_or bytes 3 0 * 65536) (get_or bytes 2 0 + get_or bytes 3 0 * 256) (from_here bytes 2 (get_or bytes 2 0 + get_or bytes 3 0 * 256) (get_or bytes 3 0) (from_here bytes 3 (get_or bytes 3 0) 0 (from_end bytes 4 (omega arith)) (omega arith)) (omega arith)) (omega arith)) (omega (arith, c.from_le_bytes-in-len4.ensures)))

pub returns-in-len5 : goal.returns-in-len5
returns-in-len5 c =
    let bytes = c.args.bytes.now in
    unpacked_digits bytes _ (λ k. omega (arith, c.type_inv.bytes k))
    (from_here bytes 0 _ (get_or bytes 1 0 + get_or bytes 2 0 * 256 + get_or bytes 3 0 * 65536 + get_or bytes 4 0 * 16777216) (from_here bytes 1 (get_or bytes 1 0 + get_or bytes 2 0 * 256 + get_or bytes 3 0 * 65536 + get_or bytes 4 0 * 16777216) (get_or bytes 2 0 + get_or bytes 3 0 * 256 + get_or bytes 4 0 * 65536) (from_here bytes 2 (get_or bytes 2 0 + get_or bytes 3 0 * 256 + get_or bytes 4 0 * 65536) (get_or bytes 3 0 + get_or bytes 4 0 * 256) (from_here bytes 3 (get_or bytes 3 0 + get_or bytes 4 0 * 256) (get_or bytes 4 0) (from_here bytes 4 (get_or bytes 4 0) 0 (from_end bytes 5 (omega arith)) (omega arith)) (omega arith)) (omega arith)) (omega arith)) (omega (arith, c.from_le_bytes-in-len5.ensures)))

pub returns-in-len6 : goal.returns-in-len6
returns-in-len6 c =
    let bytes = c.args.bytes.now in
    unpacked_digits bytes _ (λ k. omega (arith, c.type_inv.bytes k))
    (from_here bytes 0 _ (get_or bytes 1 0 + get_or bytes 2 0 * 256 + get_or bytes 3 0 * 65536 + get_or bytes 4 0 * 16777216 + get_or bytes 5 0 * 4294967296) (from_here bytes 1 (get_or bytes 1 0 + get_or bytes 2 0 * 256 + get_or bytes 3 0 * 65536 + get_or bytes 4 0 * 16777216 + get_or bytes 5 0 * 4294967296) (get_or bytes 2 0 + get_or bytes 3 0 * 256 + get_or bytes 4 0 * 65536 + get_or bytes 5 0 * 16777216) (from_here bytes 2 (get_or bytes 2 0 + get_or bytes 3 0 * 256 + get_or bytes 4 0 * 65536 + get_or bytes 5 0 * 16777216) (get_or bytes 3 0 + get_or bytes 4 0 * 256 + get_or bytes 5 0 * 65536) (from_here bytes 3 (get_or bytes 3 0 + get_or bytes 4 0 * 256 + get_or bytes 5 0 * 65536) (get_or bytes 4 0 + get_or bytes 5 0 * 256) (from_here bytes 4 (get_or bytes 4 0 + get_or bytes 5 0 * 256) (get_or bytes 5 0) (from_here bytes 5 (get_or bytes 5 0) 0 (from_end bytes 6 (omega arith)) (omega arith)) (omega arith)) (omega arith)) (omega arith)) (omega arith)) (omega (arith, c.from_le_bytes-in-len6.ensures)))

pub returns-in-len7 : goal.returns-in-len7
returns-in-len7 c =
    let bytes = c.args.bytes.now in
    unpacked_digits bytes _ (λ k. omega (arith, c.type_inv.bytes k))
    (from_here bytes 0 _ (get_or bytes 1 0 + get_or bytes 2 0 * 256 + get_or bytes 3 0 * 65536 + get_or bytes 4 0 * 16777216 + get_or bytes 5 0 * 4294967296 + get_or bytes 6 0 * 1099511627776) (from_here bytes 1 (get_or bytes 1 0 + get_or bytes 2 0 * 256 + get_or bytes 3 0 * 65536 + get_or bytes 4 0 * 16777216 + get_or bytes 5 0 * 4294967296 + get_or bytes 6 0 * 1099511627776) (get_or bytes 2 0 + get_or bytes 3 0 * 256 + get_or bytes 4 0 * 65536 + get_or bytes 5 0 * 16777216 + get_or bytes 6 0 * 4294967296) (from_here bytes 2 (get_or bytes 2 0 + get_or bytes 3 0 * 256 + get_or bytes 4 0 * 65536 + get_or bytes 5 0 * 16777216 + get_or bytes 6 0 * 4294967296) (get_or bytes 3 0 + get_or bytes 4 0 * 256 + get_or bytes 5 0 * 65536 + get_or bytes 6 0 * 16777216) (from_here bytes 3 (get_or bytes 3 0 + get_or bytes 4 0 * 256 + get_or bytes 5 0 * 65536 + get_or bytes 6 0 * 16777216) (get_or bytes 4 0 + get_or bytes 5 0 * 256 + get_or bytes 6 0 * 65536) (from_here bytes 4 (get_or bytes 4 0 + get_or bytes 5 0 * 256 + get_or bytes 6 0 * 65536) (get_or bytes 5 0 + get_or bytes 6 0 * 256) (from_here bytes 5 (get_or bytes 5 0 + get_or bytes 6 0 * 256) (get_or bytes 6 0) (from_here bytes 6 (get_or bytes 6 0) 0 (from_end bytes 7 (omega arith)) (omega arith)) (omega arith)) (omega arith)) (omega arith)) (omega arith)) (omega arith)) (omega (arith, c.from_le_bytes-in-len7.ensures)))

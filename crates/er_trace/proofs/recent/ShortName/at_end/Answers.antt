use Rattle.std.proofs.Common.{◌≡◌, ℕ, List, ◌-◌, length, take, drop, length-drop, subst, arith}
use Rattle.std.proofs.Math.Seq.{take-length}
use Rattle.er_trace.specs.Inner.Recent.{unpacked}
use Rattle.er_trace.proofs.DigitLemmas.{at_end}
use Rattle.er_trace.proofs.recent.ShortName.at_end.Goals as goal

pub returns-clause-bytes : goal.returns-clause-bytes
returns-clause-bytes c =
    let bytes = c.args.bytes.now in
    let back = drop (length bytes - 8) bytes in
    let size : length back ≡ 8 = let left = length-drop (length bytes - 8) bytes in omega (arith, left, c.if-bytes-lt8.false) in
    let many : length bytes - (length bytes - 8) ≡ length back = omega (arith, size, c.if-bytes-lt8.false) in
    let whole : take (length bytes - (length bytes - 8)) back ≡ back = rw many (take-length back) in
    let P : List ℕ → Type 0 = λ w. unpacked (length w) c.packed_eight-block.result ≡ w in
    let Q : ℕ → Type 0 = λ n. unpacked n c.packed_eight-block.result ≡ back in
    at_end bytes c.packed_eight-block.result c.args.len (subst Q size (subst P whole c.packed_eight-block.ensures)) (omega (arith, c.if-bytes-lt8.false)) (omega (arith, c.if-len-gt8.false))

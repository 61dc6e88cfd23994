-- A lane is set where a byte is an LF, and the lowest set bit is the first. If none is set, the search gives its place.
use Rattle.std.proofs.Common.{eqb, ap, ◌∙◌, arith, w8}
use Rattle.std.proofs.lemmas.Simd.{length-chunk, bitmask_splat}
use Rattle.std.specs.Int.Count.{count_trailing_zeros}
use lib.Lanes.{chunk}
use Rattle.er_lines.specs.Lines.{is_end}
use Rattle.er_lines.proofs.BlockLemmas.{first_in_block}
use Rattle.er_lines.proofs.ByteLemmas.{end_found}
use Rattle.er_lines.proofs.bytes.line_len.Goals as goal

pub returns-then-len-lt64 : goal.returns-then-len-lt64
returns-then-len-lt64 c =
    let bytes = c.args.bytes.now in
    let room = c.if-bytes-ge64.true in
    let mask = bitmask_splat w8 eqb (chunk 0 64 bytes) 64 10 (length-chunk 0 64 bytes room) (omega arith) in
    ap (count_trailing_zeros 64) mask ∙ first_in_block is_end bytes 64 room (omega arith) (rw mask at c.if-len-lt64.true)

pub returns : goal.returns
returns c = c.unwrap_or.ensures ∙ end_found c.args.bytes.now c.memchr.result c.memchr.ensures

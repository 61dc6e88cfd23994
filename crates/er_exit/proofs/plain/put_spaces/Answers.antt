-- The spaces of one byte more.
use Rattle.std.proofs.Common.{◌<◌, length, arith}
use Rattle.er_exit.proofs.SpaceLemmas.{blank_more, put_blank}
use Rattle.er_exit.proofs.plain.put_spaces.Goals as goal

pub loop-byte-preserved : goal.loop-byte-preserved
loop-byte-preserved c =
    let bytes = c.args.bytes.now in
    let i = c.loop-byte.byte-index in
    let below : i < length bytes = omega arith in
    blank_more c.args.out.now.items c.loop-byte.out.items c.extend_from_slice.new.self.items bytes i below c.loop-byte.invariant
    (put_blank c.loop-byte.out.items c.extend_from_slice.new.self.items _ c.shown_byte-width.result.1 c.shown_byte-width.ensures.width c.shown_byte-width.ensures.few
    c.in_ok-extend_from_slice.ensures.items)

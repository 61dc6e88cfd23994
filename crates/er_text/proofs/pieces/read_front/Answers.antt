-- What the line in front says, alone.
use Rattle.std.proofs.Common.{arith, rules}
use Rattle.er_text.proofs.PieceLemmas.{front_read}
use Rattle.er_text.proofs.pieces.read_front.Goals as goal

pub returns-clause-read : goal.returns-clause-read
returns-clause-read c =
    front_read c.args.version c.args.line c.args.bytes.now c.line_len-len.result _ c.read_plain.new.self.stage _ c.read_plain.new.self.idle c.args.trace.now c.read_plain.new.trace
    c.line_len-len.ensures (omega (arith, c.if-len-bytes.false)) (omega (arith, c.if-len-gt-LINE.false)) c.requires.«open».0 c.requires.«open».1
    (search rules) (search rules) c.in-Ok.ensures.read

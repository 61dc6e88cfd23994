-- One byte more.
use Rattle.std.proofs.Common.{get_or, refl}
use Rattle.er_print.proofs.LineLemmas.{one_more}
use Rattle.er_print.specs.Styles.{escaped}
use Rattle.er_print.proofs.styles.put_escaped.Goals as goal

pub loop-byte-preserved : goal.loop-byte-preserved
loop-byte-preserved c =
    one_more escaped c.args.text.now c.loop-byte.byte-index 0 (get_or c.args.text.now c.loop-byte.byte-index 0) c.args.out.now.items c.loop-byte.out.items c.put_byte.new.out.items c.loop-byte-test.true
    refl c.loop-byte.invariant c.in_ok-put_byte.ensures

-- One call more.
use Rattle.std.proofs.Common.{get_or, refl}
use Rattle.er_print.proofs.DigitLemmas.{put_three}
use Rattle.er_print.proofs.LineLemmas.{one_more}
use Rattle.er_sites.specs.Text.{call_text}
use Rattle.er_sites.proofs.standing.put_calls.Goals as goal

pub loop-call-preserved : goal.loop-call-preserved
loop-call-preserved c =
    one_more (call_text c.args.places.now) c.args.calls.now c.loop-call.call-index 0 (get_or c.args.calls.now c.loop-call.call-index 0) c.args.out.now.items c.loop-call.out.items
    c.extend_from_slice.new.self.items c.loop-call-test.true refl c.loop-call.invariant
    (rw (← c.call_name.ensures, ← c.call_function-function.ensures)
    (put_three c.loop-call.out.items _ _ _ _ _ _ c.in_ok-put.ensures.joined c.in_ok-put_known.ensures c.in_ok-extend_from_slice.ensures.items))

-- One reason more is put in each turn.
use Rattle.std.proofs.Common.{sym}
use Rattle.std.proofs.lemmas.List.{append-nil}
use Rattle.er_print.specs.Printed.{reason_text}
use Rattle.er_print.proofs.DigitLemmas.{put_parts}
use Rattle.er_print.proofs.LineLemmas.{one_more, no_more}
use Rattle.er_print.proofs.lines.put_reasons.Goals as goal

pub loop-because-init : goal.loop-because-init
loop-because-init c = sym (append-nil _)

pub loop-because-preserved : goal.loop-because-preserved
loop-because-preserved c =
    one_more (reason_text c.args.names.now) c.args.explained.now _ _ c.because-item.result _ _ _ c.loop-because-test.true c.because-item.is
    c.loop-because.invariant (put_parts _ _ _ _ _ _ _ _ _ _ _ _ _ _ _ _ _ _ c.in_ok-extend_from_slice.ensures.items c.in_ok-put_label_in.ensures c.in_ok-put_labelled.ensures c.in_ok-extend_from_slice-2.ensures.items
    c.in_ok-put_thread.ensures c.in_ok-extend_from_slice-3.ensures.items (rw c.verb.ensures at c.in_ok-extend_from_slice-4.ensures.items) c.in_ok-extend_from_slice-5.ensures.items)

pub returns : goal.returns
returns c = no_more (reason_text c.args.names.now) _ _ c.args.explained.now _ c.loop-because-test.false c.loop-because.invariant

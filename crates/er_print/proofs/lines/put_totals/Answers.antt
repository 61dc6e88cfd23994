-- The parts of the line, one behind another, whatever it calls races.
use Rattle.std.proofs.Common.{append_assoc}
use Rattle.er_print.proofs.lines.put_totals.Goals as goal

pub returns : goal.returns
returns c =
    rw (c.in_ok-extend_from_slice.ensures.items, c.in_ok-put_lost.ensures, c.in_ok-put_labelled-4.ensures, c.in_ok-put_labelled-3.ensures, c.in_ok-put_labelled-2.ensures, c.races_label.ensures, c.in_ok-put_labelled.ensures)
    (simp append_assoc)

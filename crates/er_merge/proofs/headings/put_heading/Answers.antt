-- The parts of the line, one behind another.
use Rattle.std.proofs.Common.{append_assoc}
use Rattle.er_merge.proofs.headings.put_heading.Goals as goal

pub returns : goal.returns
returns c =
    rw (c.in_ok-extend_from_slice-3.ensures.items, c.in_ok-put_about.ensures, c.in_ok-put_number-2.ensures, c.in_ok-extend_from_slice-2.ensures.items, c.in_ok-put_number.ensures, c.in_ok-extend_from_slice.ensures.items)
    (simp append_assoc)

-- The parts of the text, one behind another.
use Rattle.std.proofs.Common.{append_assoc}
use Rattle.er_merge.specs.Headings.{about_text}
use Rattle.er_merge.proofs.headings.put_about.Goals as goal

pub returns : goal.returns
unfolding about_text
returns c =
    rw (c.in_ok-extend_from_slice-4.ensures.items, c.reasons.ensures, c.in_ok-put_hex-2.ensures, c.in_ok-extend_from_slice-3.ensures.items, c.in_ok-put_hex.ensures, c.in_ok-extend_from_slice-2.ensures.items, c.in_ok-put_number.ensures, c.in_ok-extend_from_slice.ensures.items)
    (simp append_assoc)

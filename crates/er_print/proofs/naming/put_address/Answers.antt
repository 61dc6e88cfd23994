-- The digits are put four at a time.
use Rattle.er_print.proofs.DigitLemmas.{put_address}
use Rattle.er_print.proofs.naming.put_address.Goals as goal

pub returns : goal.returns
returns c =
    put_address c.args.out.now.items _ _ _ c.extend_from_slice-4.new.self.items _ _ _ c.address-low.result c.args.word c.address-low.ensures
    c.in_ok-extend_from_slice.ensures.items c.in_ok-extend_from_slice-2.ensures.items c.in_ok-extend_from_slice-3.ensures.items c.in_ok-extend_from_slice-4.ensures.items
    c.four_digits.ensures c.four_digits-2.ensures c.four_digits-3.ensures

use Rattle.er_print.proofs.DigitLemmas.{four_found}
use Rattle.er_print.proofs.naming.four_digits.Goals as goal

pub returns : goal.returns
returns c = four_found c.args.n _ _ _ _ c.hex_digit.ensures c.hex_digit-2.ensures c.hex_digit-3.ensures c.hex_digit-4.ensures

-- One digit more, and all of them.
use Rattle.std.proofs.Common.{◌-◌, codes, refl, ◌∙◌, arith}
use Rattle.std.proofs.lemmas.List.{append-nil, length-set, take-set-le}
use Rattle.er_binary.proofs.HexLemmas.{hex_step, hex_whole}
use Rattle.er_binary.proofs.names.address_word.Goals as goal

pub loop-at-init : goal.loop-at-init
loop-at-init c = record { front = omega arith; within = omega arith; size = refl; begin = refl; digits = append-nil _ }

pub loop-at-preserved : goal.loop-at-preserved
loop-at-preserved c =
    record {
      front = omega (arith, c.loop-at-test.true);
      within = omega (arith, c.loop-at.invariant.within);
      size = length-set c.loop-at.word (c.loop-at.at - 1) c.hex_digit.result ∙ c.loop-at.invariant.size;
      begin = take-set-le 3 c.loop-at.word (c.loop-at.at - 1) c.hex_digit.result (omega (arith, c.loop-at-test.true)) ∙ c.loop-at.invariant.begin;
      digits = hex_step c.loop-at.word c.loop-at.at c.loop-at.left c.hex_digit.result (omega (arith, c.loop-at-test.true)) (omega (arith, c.loop-at.invariant.size, c.loop-at.invariant.within)) c.hex_digit.ensures ∙ c.loop-at.invariant.digits;
    }

pub returns : goal.returns
returns c = hex_whole c.loop-at.word (codes " 0x") _ c.loop-at.at c.loop-at.left (omega (arith, c.loop-at.invariant.front, c.loop-at-test.false)) c.loop-at.invariant.begin c.loop-at.invariant.digits

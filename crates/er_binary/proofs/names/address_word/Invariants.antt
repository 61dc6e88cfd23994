-- The digits behind a place are written.
use Rattle.std.proofs.Common.{◌≡◌, ◌≤◌, ◌-◌, ◌++◌, codes, length, take, drop}
use Rattle.er_lines.specs.Number.{hex_digits}
use Rattle.er_binary.proofs.names.address_word.Given as goal

abbrev pub invariant-loop-at : goal.invariant-loop-at
invariant-loop-at l = record {
  front : 3 ≤ l.at;
  within : l.at ≤ 15;
  size : length l.word ≡ 15;
  begin : take 3 l.word ≡ codes " 0x";
  digits : hex_digits (l.at - 3) l.left ++ drop l.at l.word ≡ hex_digits 12 l.address;
}

abbrev pub decreases-loop-at : goal.decreases-loop-at
decreases-loop-at l = l.at

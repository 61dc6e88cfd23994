use Rattle.std.proofs.Common.{◌≡◌, ◌<◌, ◌^◌, drop}
use Rattle.std.specs.List.{list_all}
use Rattle.std.specs.Char.{is_digit}
use Rattle.std.specs.Str.Parse.{digits_value, digits_value_after}
use Rattle.er_lines.proofs.numbers.value_in.Given as goal

abbrev pub invariant-loop-byte : goal.invariant-loop-byte
invariant-loop-byte l = record {
  digits : list_all (λ digit. is_digit digit l.radix) (drop l.byte-index l.digits) ≡ list_all (λ digit. is_digit digit l.radix) l.digits;
  small : l.value < 2 ^ 64;
  value : digits_value_after l.radix l.value (drop l.byte-index l.digits) ≡ digits_value l.radix l.digits;
}

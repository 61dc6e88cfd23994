-- The number that a word writes, and the hexadecimal digits of a number.
use Rattle.std.specs.Prelude.{ℕ, zero, suc, ◌/◌, ◌%◌, ◌^◌, ◌==◌, ◌&&◌, Bool, List, [], ◌∷◌, ◌++◌, Option, Some, None, nat_lt, unwrap_or, if◌then◌else◌}
use Rattle.std.specs.List.{list_all}
use Rattle.std.specs.Char.{digit_char, is_digit}
use Rattle.std.specs.Str.Parse.{digits_value}
use Rattle.std.specs.Option.{is_some}
use Rattle.er_lines.specs.Lines.{has_bytes, word_at}

-- the value of one digit or more, below 2 ^ 64
abbrev pub value_in : ℕ → List ℕ → Option ℕ
value_in radix digits =
    if has_bytes digits && list_all (λ digit. is_digit digit radix) digits && nat_lt (digits_value radix digits) (2 ^ 64)
    then Some (digits_value radix digits) else None

-- in decimal digits, or in hexadecimal ones after 0x
abbrev pub number_of : List ℕ → Option ℕ
number_of (first ∷ second ∷ digits) = if (first == 48) && (second == 120) then value_in 16 digits else value_in 10 (first ∷ second ∷ digits)
number_of word = value_in 10 word

-- the number that an operand writes, or 0
abbrev pub number_at : ℕ → List (List ℕ) → ℕ
number_at i operands = unwrap_or (number_of (word_at i operands)) 0

abbrev pub is_number_at : ℕ → List (List ℕ) → Bool
is_number_at i operands = is_some (number_of (word_at i operands))

-- so many lower-case hexadecimal digits, of which the last is the lowest
unfoldable pub hex_digits : ℕ → ℕ → List ℕ
hex_digits zero n = []
hex_digits (suc k) n = hex_digits k (n / 16) ++ digit_char (n % 16) ∷ []

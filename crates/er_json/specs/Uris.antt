-- The file of a site as a URI.
use Rattle.std.specs.Prelude.{ℕ, ◌+◌, ◌/◌, ◌%◌, ◌==◌, ◌||◌, ◌&&◌, Bool, nat_le, nat_lt, cond, List, [], ◌∷◌, codes}
use Rattle.std.specs.List.{list_any}

-- a letter or a digit, or a sign that stands for itself in a path of a URI; a colon does so only behind a scheme
abbrev pub is_path_byte : ℕ → Bool
is_path_byte byte =
    nat_le 97 byte && nat_le byte 122 || nat_le 65 byte && nat_le byte 90 || nat_le 48 byte && nat_le byte 57
    || list_any (λ sign. sign == byte) (codes "/-._~!$&'()*+,;=@")

-- a hexadecimal digit
abbrev pub digit_byte : ℕ → ℕ
digit_byte digit = cond (nat_lt digit 10) (48 + digit) (55 + digit)

-- a byte of a path, or its escape; neither needs an escape of JSON
abbrev pub uri_byte : ℕ → List ℕ
uri_byte byte = cond (is_path_byte byte) (byte ∷ []) (37 ∷ digit_byte (byte / 16) ∷ digit_byte (byte % 16) ∷ [])

-- Numbers in bytes and as text, and lists of names.
use Rattle.std.specs.Prelude.{ℕ, ◌+◌, ◌*◌, ◌%◌, ◌^◌, List, [], ◌∷◌, ◌++◌, codes, slice_range, slice_index_or}
use Rattle.er_lines.specs.Number.{hex_digits}

-- the number that bytes write, the lowest first
abbrev pub number : List ℕ → ℕ
number [] = 0
number (byte ∷ bytes) = byte + 256 * number bytes

-- the number between two places
abbrev pub number_in : List ℕ → ℕ → ℕ → ℕ
number_in bytes from to = number (slice_range bytes from to)

-- a sum in 64 bits
abbrev pub plus : ℕ → ℕ → ℕ
plus a b = (a + b) % 2 ^ 64

-- a space and an address
abbrev pub address_word : ℕ → List ℕ
address_word address = codes " 0x" ++ hex_digits 12 address

-- the name of a number, and no bytes if it has none
abbrev pub name_at : List (List ℕ) → ℕ → List ℕ
name_at names n = slice_index_or names n []

-- Bytes of files as a terminal may show them.
use Rattle.std.specs.Prelude.{ℕ, ◌-◌, ◌/◌, ◌%◌, ◌==◌, ◌&&◌, ◌||◌, Bool, cond, nat_le, List, [], ◌∷◌, ◌++◌, length, flat_map, codes}
use Rattle.std.specs.List.{list_all}
use Rattle.std.specs.Char.{digit_char}

-- a printable byte of ASCII
abbrev pub is_printable : ℕ → Bool
is_printable byte = nat_le 32 byte && nat_le byte 126

-- a printable byte of ASCII, or a line feed
abbrev pub is_plain_byte : ℕ → Bool
is_plain_byte byte = is_printable byte || byte == 10

-- a text that a terminal takes for no command
abbrev pub is_plain : List ℕ → Bool
is_plain text = list_all is_plain_byte text

-- a byte that isn't printable, as an escape
abbrev pub escape : ℕ → List ℕ
escape byte = cond (byte == 9) (codes "\\t") (cond (byte == 13) (codes "\\r") (codes "\\x" ++ digit_char (byte / 16 % 16) ∷ digit_char (byte % 16) ∷ []))

-- a byte, as itself or as an escape
unfoldable pub shown_byte : ℕ → List ℕ
shown_byte byte = cond (is_printable byte) (byte ∷ []) (escape byte)

-- bytes as a terminal shows them
abbrev pub shown : List ℕ → List ℕ
shown bytes = flat_map shown_byte bytes

-- those of the bytes that fit in so many columns, and two dots if some are left
unfoldable pub fitting : ℕ → List ℕ → List ℕ
fitting columns [] = []
fitting columns (byte ∷ bytes) =
    cond (nat_le (length (shown_byte byte)) columns) (shown_byte byte ++ fitting (columns - length (shown_byte byte)) bytes) (codes "..")

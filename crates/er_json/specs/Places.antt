-- The file and the line that a site's name ends with.
use Rattle.std.specs.Prelude.{ℕ, zero, suc, ◌+◌, ◌==◌, ◌&&◌, Bool, false, cond, nat_le, nat_lt, List, [], ◌∷◌, length, drop, slice_index, Option, Some, None}
use Rattle.std.specs.List.{list_all}

-- the byte is a decimal digit
abbrev pub is_digit : ℕ → Bool
is_digit byte = nat_le 48 byte && nat_le byte 57

-- the number of a line: at most nine digits, of which the first isn't 0
abbrev pub is_line : List ℕ → Bool
is_line [] = false
is_line (byte ∷ bytes) = nat_le 49 byte && nat_le byte 57 && nat_lt (length bytes) 9 && list_all is_digit bytes

-- the last colon among the first n bytes
unfoldable pub colon_below : List ℕ → ℕ → Option ℕ
colon_below name zero = None
colon_below name (suc n) = cond (slice_index name n == 58) (Some n) (colon_below name n)

-- the colon between a file and a line
abbrev pub colon_of : List ℕ → Option ℕ → Option ℕ
colon_of name None = None
colon_of name (Some zero) = None
colon_of name (Some (suc n)) = cond (is_line (drop (suc n + 1) name)) (Some (suc n)) None

-- the colon of a site's name between a file and a line, if the name ends with both
abbrev pub file_end : List ℕ → Option ℕ
file_end name = colon_of name (colon_below name (length name))

-- Words that are names.
use Rattle.std.specs.Prelude.{ℕ, ◌==◌, ◌||◌, ◌&&◌, Bool, not, List, Option, Some, None, length, nat_le, codes, if◌then◌else◌}
use Rattle.std.specs.List.{list_all}
use Rattle.std.specs.Str.{bytes_eq}
use Rattle.er_lines.specs.Lines.{has_bytes}

abbrev within : ℕ → ℕ → ℕ → Bool
within low high byte = nat_le low byte && nat_le byte high

-- a letter, a digit, or one of _ . : / -
abbrev pub is_name_byte : ℕ → Bool
is_name_byte byte =
    within 97 122 byte || within 65 90 byte || within 48 57 byte
    || (byte == 95) || (byte == 46) || (byte == 58) || (byte == 47) || (byte == 45)

-- 1 to 128 of these
abbrev pub is_name : List ℕ → Bool
is_name word = has_bytes word && nat_le (length word) 128 && list_all is_name_byte word

-- every name but `none`
abbrev pub is_lock_name : List ℕ → Bool
is_lock_name word = is_name word && not (bytes_eq word (codes "none"))

-- a printable byte that is no space: from `!` to `~`
abbrev pub is_site_byte : ℕ → Bool
is_site_byte byte = within 33 126 byte

-- 1 to 128 of these
abbrev pub is_site_name : List ℕ → Bool
is_site_name word = has_bytes word && nat_le (length word) 128 && list_all is_site_byte word

-- the word, where it is a name
abbrev pub name_of : List ℕ → Option (List ℕ)
name_of word = if is_name word then Some word else None

abbrev pub lock_name_of : List ℕ → Option (List ℕ)
lock_name_of word = if is_lock_name word then Some word else None

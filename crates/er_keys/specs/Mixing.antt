-- What a `NumberHasher` computes.
use Rattle.std.specs.Prelude.{ℕ, ◌+◌, ◌*◌, ◌/◌, ◌%◌, ◌^◌, ◌==◌, List, length, if◌then◌else◌, bit_xor, fold}
use Rattle.std.specs.Int.{w32, w64, from_le_bytes}
use Rattle.er_keys.specs.declared.number_hasher.NumberHasher.{NumberHasher}

-- the upper half of the lower 128 bits of (high * 2^64 + low) * word
unfoldable pub mixed : ℕ → ℕ → ℕ → ℕ
mixed high low word = ((low * word) / 2 ^ 64 + (high * word) % 2 ^ 64) % 2 ^ 64

-- the hasher after one number more
unfoldable pub with_word : NumberHasher → ℕ → NumberHasher
with_word h word = record h { mixed = mixed h.high h.low (bit_xor h.mixed word) }

-- the hasher after `write(bytes)`: 8 bytes are one number, so are 4, and otherwise each byte is one
abbrev pub written : NumberHasher → List ℕ → NumberHasher
written h bytes =
    if length bytes == 8 then with_word h (from_le_bytes w64 bytes)
    else (if length bytes == 4 then with_word h (from_le_bytes w32 bytes) else fold with_word h bytes)

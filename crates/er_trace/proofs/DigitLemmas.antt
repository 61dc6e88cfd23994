-- Bytes as the digits of a number to the base 256, the first of them the lowest.
use Rattle.std.proofs.Common.{◌≡◌, ℕ, zero, suc, ◌+◌, ◌-◌, ◌*◌, ◌/◌, ◌%◌, ◌<◌, ◌≤◌, ◌^◌, List, [], ◌∷◌, ◌++◌, length, take, drop, get_or, min, refl, sym, ap, ◌∙◌, append-nil, append_assoc, length-append, arith}
use Rattle.std.proofs.lemmas.List.{take-take, drop-drop, drop_more, take-append-drop}
use Rattle.std.proofs.lemmas.Nat.{mod-pow-add, pow-add}
use Rattle.std.proofs.Math.Nat.{div-div-eq-div-mul}
use Rattle.std.proofs.Math.Pow.{pow_mono}
use Rattle.er_trace.specs.declared.recent.ShortName.{ShortName}
use Rattle.er_trace.specs.Inner.Recent.{unpacked, bytes_of}

abbrev pub digits_of : List ℕ → ℕ
digits_of [] = 0
digits_of (byte ∷ bytes) = digits_of bytes * 256 + byte

-- the number of the bytes from a place on
pub from_here : (bytes : List ℕ) (k value others : ℕ) → others ≡ digits_of (drop (suc k) bytes) → value ≡ others * 256 + get_or bytes k 0 → value ≡ digits_of (drop k bytes)
from_here [] zero value others rest is = omega arith
from_here [] (suc k) value others rest is = omega arith
from_here (byte ∷ bytes) zero value others rest is = omega arith
from_here (byte ∷ bytes) (suc k) value others rest is = from_here bytes k value others rest is

pub from_end : (bytes : List ℕ) (k : ℕ) → length bytes ≤ k → 0 ≡ digits_of (drop k bytes)
from_end [] zero past = refl
from_end [] (suc k) past = refl
from_end (byte ∷ bytes) zero past = absurd (omega arith)
from_end (byte ∷ bytes) (suc k) past = from_end bytes k (omega arith)

-- the number gives the bytes again
pub unpacked_digits : (bytes : List ℕ) (value : ℕ) → ((k : ℕ) → get_or bytes k 0 < 256) → value ≡ digits_of bytes → unpacked (length bytes) value ≡ bytes
unpacked_digits [] value small is = refl
unpacked_digits (byte ∷ bytes) value small is =
    let lowest : byte < 256 = small 0 in
    let first : value % 256 ≡ byte = omega arith in
    let rest : value / 256 ≡ digits_of bytes = omega arith in
    rw first (ap (λ (others : List ℕ). byte ∷ others) (unpacked_digits bytes (value / 256) (λ k. small (suc k)) rest))

-- what is above the lowest digits doesn't show in these
pub unpacked_low : (n value : ℕ) → unpacked n (value % 2 ^ (8 * n)) ≡ unpacked n value
unpacked_low zero value = refl
unpacked_low (suc n) value =
    let shape : 8 * suc n ≡ 8 * n + 8 = omega arith in
    let more : value % 2 ^ (8 * n + 8) ≡ (value / 256 % 2 ^ (8 * n)) * 256 + value % 256 = mod-pow-add value (8 * n) 8 in
    let lowest : value % 2 ^ (8 * suc n) % 256 ≡ value % 256 = rw (shape, more) (omega arith) in
    let rest : value % 2 ^ (8 * suc n) / 256 ≡ value / 256 % 2 ^ (8 * n) = rw (shape, more) (omega arith) in
    rw (lowest, rest) (ap (λ (others : List ℕ). value % 256 ∷ others) (unpacked_low n (value / 256)))

pub unpacked_take : (n m value : ℕ) → n ≤ m → take n (unpacked m value) ≡ unpacked n value
unpacked_take zero m value le = refl
unpacked_take (suc n) zero value le = absurd (omega (arith, le))
unpacked_take (suc n) (suc m) value le = ap (λ (others : List ℕ). value % 256 ∷ others) (unpacked_take n m (value / 256) (omega (arith, le)))

-- the digits from a place on
unpacked_drop : (k n m value : ℕ) → m ≡ k + n → drop k (unpacked m value) ≡ unpacked n (value / 2 ^ (8 * k))
unpacked_drop zero n m value e =
    let same : m ≡ n = omega (arith, e) in
    let all : value / 2 ^ (8 * 0) ≡ value = omega arith in
    rw (same, all) refl
unpacked_drop (suc k) n zero value e = absurd (omega (arith, e))
unpacked_drop (suc k) n (suc m) value e =
    let shape : 8 * suc k ≡ 8 + 8 * k = omega arith in
    let power : 2 ^ (8 + 8 * k) ≡ 256 * 2 ^ (8 * k) = pow-add 2 8 (8 * k) in
    rw (shape, power, ← div-div-eq-div-mul value 256 (2 ^ (8 * k))) (unpacked_drop k n m (value / 256) (omega (arith, e)))

unpacked_size : (n value : ℕ) → length (unpacked n value) ≡ n
unpacked_size zero value = refl
unpacked_size (suc n) value = let more = unpacked_size n (value / 256) in omega (arith, more)

pub bytes_size : (name : ShortName) → length (bytes_of name) ≡ name.len
bytes_size name =
    let both = length-append (unpacked (min name.len 8) name.first) (unpacked (name.len - 8) name.rest) in
    omega (arith, both, unpacked_size (min name.len 8) name.first, unpacked_size (name.len - 8) name.rest)

bytes_small : (name : ShortName) → name.len ≤ 8 → bytes_of name ≡ unpacked name.len name.first
bytes_small name few =
    let one : min name.len 8 ≡ name.len = omega (arith, few) in
    let none : name.len - 8 ≡ 0 = omega (arith, few) in
    rw (one, none) (append-nil (unpacked name.len name.first))

-- the bytes in front of a space are the lowest digits of the first eight
pub near_space : (bytes : List ℕ) (block len : ℕ) → unpacked 8 block ≡ take 8 bytes → 8 ≤ length bytes → len < 8 → get_or bytes len 0 ≡ 32
    → bytes ≡ bytes_of (record { len = len; first = block % (1 * 2 ^ (8 * len) % 18446744073709551616); rest = 0 }) ++ 32 ∷ drop (len + 1) bytes
near_space bytes block len front long few space =
    let most : 2 ^ (8 * len) ≤ 2 ^ 56 = pow_mono {i = 8 * len} {j = 56} (omega (arith, few)) in
    let mask : 1 * 2 ^ (8 * len) % 18446744073709551616 ≡ 2 ^ (8 * len) = omega (arith, most) in
    let digits : unpacked len (block % 2 ^ (8 * len)) ≡ take len bytes =
    unpacked_low len block ∙ sym (unpacked_take len 8 block (omega (arith, few))) ∙ ap (take len) front ∙ take-take len 8 bytes (omega (arith, few)) in
    let behind : drop len bytes ≡ 32 ∷ drop (len + 1) bytes = drop_more bytes len 0 (omega (arith, few, long)) ∙ ap (λ (b : ℕ). b ∷ drop (len + 1) bytes) space in
    rw mask (rw (bytes_small (record { len = len; first = block % 2 ^ (8 * len); rest = 0 }) (omega (arith, few)), digits, ← behind) (sym (take-append-drop len bytes)))

-- eight bytes, and those behind them in front of a space
pub far_space : (bytes : List ℕ) (first : ℕ) (last : ShortName) → unpacked 8 first ≡ take 8 bytes → last.len ≤ 8 → drop 8 bytes ≡ bytes_of last ++ 32 ∷ drop (last.len + 1) (drop 8 bytes)
    → bytes ≡ bytes_of (record { len = 8 + last.len; first = first; rest = last.first }) ++ 32 ∷ drop (8 + last.len + 1) bytes
far_space bytes first last front few behind =
    let k = last.len in
    let one : min (8 + k) 8 ≡ 8 = omega arith in
    let two : 8 + k - 8 ≡ k = omega arith in
    let shape : 8 + k + 1 ≡ 8 + (k + 1) = omega arith in
    let left = 32 ∷ drop (k + 1) (drop 8 bytes) in
    let whole : bytes ≡ take 8 bytes ++ (unpacked k last.first ++ left) =
    sym (take-append-drop 8 bytes) ∙ ap (λ (b : List ℕ). take 8 bytes ++ b) (behind ∙ ap (λ (w : List ℕ). w ++ left) (bytes_small last few)) in
    let told : bytes ≡ (unpacked 8 first ++ unpacked k last.first) ++ 32 ∷ drop (8 + (k + 1)) bytes =
    whole ∙ sym (append_assoc (take 8 bytes) (unpacked k last.first) left)
    ∙ ap (λ (w : List ℕ). (w ++ unpacked k last.first) ++ left) (sym front)
    ∙ ap (λ (d : List ℕ). (unpacked 8 first ++ unpacked k last.first) ++ 32 ∷ d) (drop-drop (k + 1) 8 bytes) in
    rw (one, two, shape) told

-- and the last bytes the highest digits of the last eight
pub at_end : (bytes : List ℕ) (block len : ℕ) → unpacked 8 block ≡ drop (length bytes - 8) bytes → 8 ≤ length bytes → len ≤ 8
    → bytes_of (record { len = len; first = block / 2 ^ (64 - 8 * len); rest = 0 }) ≡ drop (length bytes - len) bytes
at_end bytes block len back long few =
    let shape : 64 - 8 * len ≡ 8 * (8 - len) = omega (arith, few) in
    let place : (length bytes - 8) + (8 - len) ≡ length bytes - len = omega (arith, few, long) in
    rw (bytes_small (record { len = len; first = block / 2 ^ (64 - 8 * len); rest = 0 }) few, shape, ← unpacked_drop (8 - len) len 8 block (omega (arith, few)), back, drop-drop (8 - len) (length bytes - 8) bytes, place) refl

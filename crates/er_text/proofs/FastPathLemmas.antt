-- Lines in their usual form: the words of what is put together with single spaces.
use Rattle.std.proofs.Common.{◌≡◌, ℕ, suc, ◌+◌, ◌-◌, ◌*◌, ◌^◌, ◌<◌, ◌≤◌, Bool, true, false, not, cond, List, [], ◌∷◌, length, take, drop, get_or, refl, ◌∙◌, subst, arith}
use Rattle.std.specs.Prelude.{Option, Some, None, IfSome}
use Rattle.std.specs.List.{list_all, position_or_len}
use Rattle.std.specs.Char.{digit_value, is_digit}
use Rattle.std.proofs.lemmas.Bool.Decides.{nat_tests}
use Rattle.std.proofs.lemmas.Int.Digits.{digits_value_more}
use Rattle.std.proofs.lemmas.List.Folds.{list_all_more}
use Rattle.std.proofs.lemmas.Nat.{pow-add}
use Rattle.std.proofs.Math.Pow.{pow_mono}
use Rattle.std.proofs.Math.Seq.{take-length}
use Rattle.er_text.specs.Inner.FastPath.{HexSoFar, AreLeadingDigits}

-- the elements in front of the first that fails all pass
front_step : (p : ℕ → Bool) (x : ℕ) (xs : List ℕ) (b : Bool) → p x ≡ b → list_all p (take (position_or_len (λ y. not (p y)) xs) xs) ≡ true
    → list_all p (take (cond (not (not b)) (1 + position_or_len (λ y. not (p y)) xs) 0) (x ∷ xs)) ≡ true
front_step p x xs true e more =
    let one : 1 + position_or_len (λ y. not (p y)) xs ≡ suc (position_or_len (λ y. not (p y)) xs) = omega arith in
    rw (one, e) more
front_step p x xs false e more = refl

pub front_passes : (p : ℕ → Bool) (xs : List ℕ) → list_all p (take (position_or_len (λ y. not (p y)) xs) xs) ≡ true
front_passes p [] = refl
front_passes p (x ∷ xs) = front_step p x xs (p x) refl (front_passes p xs)

pub no_digit : (bytes : List ℕ) → HexSoFar bytes 0 0
no_digit bytes = record { digits = refl; value_is = refl; small = omega arith }

bound_more : (value digit i : ℕ) → value < 2 ^ (4 * i) → digit < 16 → value * 16 + digit < 2 ^ (4 * (i + 1))
bound_more value digit i small low =
    let shape : 4 * (i + 1) ≡ 4 * i + 4 = omega arith in
    let whole : 2 ^ (4 * i + 4) ≡ 2 ^ (4 * i) * 16 = pow-add 2 (4 * i) 4 in
    rw shape (rw whole (omega (arith, small, low)))

pub digit_more : (bytes : List ℕ) (value digit i : ℕ) → HexSoFar bytes value i → i < length bytes → digit ≡ digit_value (get_or bytes i 0) → digit < 16
    → HexSoFar bytes (value * 16 + digit) (i + 1)
digit_more bytes value digit i so within is low =
    let test : is_digit (get_or bytes i 0) 16 ≡ true = let same : digit_value (get_or bytes i 0) < 16 = omega (arith, is, low) in grind (arith, nat_tests, same) in
    record {
      digits = list_all_more (λ d. is_digit d 16) bytes i 0 within ∙ (rw (so.digits, test) refl);
      value_is = digits_value_more 16 bytes i within ∙ (rw (so.value_is, ← is) refl);
      small = bound_more value digit i so.small low;
    }

-- four digits more
at_place : (bytes : List ℕ) (value i j : ℕ) → i ≡ j → HexSoFar bytes value i → HexSoFar bytes value j
at_place bytes value i j same so = subst (λ (k : ℕ). HexSoFar bytes value k) same so

pub of_value : (bytes : List ℕ) (value other i : ℕ) → value ≡ other → HexSoFar bytes value i → HexSoFar bytes other i
of_value bytes value other i same so = subst (λ (v : ℕ). HexSoFar bytes v i) same so

pub four_digits_more : (bytes : List ℕ) (value i a b c d : ℕ) → HexSoFar bytes value i → i + 4 ≤ length bytes
    → a ≡ digit_value (get_or bytes i 0) → b ≡ digit_value (get_or bytes (i + 1) 0) → c ≡ digit_value (get_or bytes (i + 2) 0) → d ≡ digit_value (get_or bytes (i + 3) 0)
    → a < 16 → b < 16 → c < 16 → d < 16 → HexSoFar bytes (value * 65536 + ((a * 16 + b) * 256 + (c * 16 + d))) (i + 4)
four_digits_more bytes value i a b c d so within a_is b_is c_is d_is a_low b_low c_low d_low =
    let one = digit_more bytes value a i so (omega (arith, within)) a_is a_low in
    let two = at_place bytes _ (i + 1 + 1) (i + 2) (omega arith) (digit_more bytes (value * 16 + a) b (i + 1) one (omega (arith, within)) b_is b_low) in
    let three = at_place bytes _ (i + 2 + 1) (i + 3) (omega arith) (digit_more bytes ((value * 16 + a) * 16 + b) c (i + 2) two (omega (arith, within)) c_is c_low) in
    let four = at_place bytes _ (i + 3 + 1) (i + 4) (omega arith) (digit_more bytes (((value * 16 + a) * 16 + b) * 16 + c) d (i + 3) three (omega (arith, within)) d_is d_low) in
    of_value bytes _ _ (i + 4) (omega arith) four

-- twelve digits of bytes that begin so are those of others
pub same_front : (bytes block : List ℕ) (found : Option ℕ) → take 12 bytes ≡ take 12 block → IfSome found (λ value. HexSoFar block value 12) → IfSome found (λ value. HexSoFar bytes value 12)
same_front bytes block None same so = tt
same_front bytes block (Some value) same so = record { digits = rw same so.digits; value_is = rw same so.value_is; small = so.small }

-- at most 12 digits write a number below 2 ^ 48
pub few_small : (value i : ℕ) → value < 2 ^ (4 * i) → i ≤ 12 → value < 2 ^ 48
few_small value i small few =
    let most : 2 ^ (4 * i) ≤ 2 ^ 48 = pow_mono {i = 4 * i} {j = 48} (omega arith) in
    omega (arith, small, most)

pub hex_found : (bytes : List ℕ) (value i : ℕ) → HexSoFar bytes value i → i ≤ 12 → i ≤ length bytes → AreLeadingDigits bytes value i
hex_found bytes value i so few within = record { most = few; within = within; digits = so.digits; value_is = so.value_is; small = few_small value i so.small few }

-- what follows a space in front
pub space_front : (bytes : List ℕ) → 1 ≤ length bytes → get_or bytes 0 0 ≡ 32 → bytes ≡ 32 ∷ take (length bytes - 1) (drop 1 bytes)
space_front [] some space = absurd (omega (arith, some))
space_front (byte ∷ bytes) some space =
    let rest : suc (length bytes) - 1 ≡ length bytes = omega arith in
    rw (rest, space, take-length bytes) refl

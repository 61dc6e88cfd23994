-- The value of digits, one after another.
use Rattle.std.proofs.Common.{◌≡◌, ℕ, ◌+◌, ◌*◌, ◌^◌, ◌<◌, ◌≤◌, Bool, true, false, ◌&&◌, cond, List, [], ◌∷◌, length, drop, get_or, nat_lt, nat_eq, Some, None, refl, sym, ap, ◌∙◌, arith}
use Rattle.std.specs.List.{list_all}
use Rattle.std.specs.Char.{digit_value, is_digit}
use Rattle.std.specs.Str.Parse.{digits_value, digits_value_after}
use Rattle.std.proofs.lemmas.List.{drop_more, drop_all}
use Rattle.std.proofs.lemmas.Bool.Decides.{nat_tests}
use Rattle.std.proofs.Math.Nat.{mul-le-mul_left}
use Rattle.er_lines.specs.Lines.{has_bytes}
use Rattle.er_lines.specs.Number.{value_in}

-- more digits give no smaller number
pub after_ge : (radix n : ℕ) (ds : List ℕ) → 1 ≤ radix → n ≤ digits_value_after radix n ds
after_ge radix n [] one = omega arith
after_ge radix n (d ∷ ds) one =
    let grows : n * 1 ≤ n * radix = mul-le-mul_left n one in
    let more = after_ge radix (n * radix + digit_value d) ds one in
    omega (arith, more)

guarded : (a b c : Bool) (n : ℕ) → c ≡ false → None ≡ cond (a && b && c) (Some n) None
guarded true true c n e = rw e refl
guarded true false c n e = refl
guarded false b c n e = refl

too_large : (radix : ℕ) (ds : List ℕ) → 2 ^ 64 ≤ digits_value radix ds → None ≡ value_in radix ds
too_large radix ds large =
    let test : nat_lt (digits_value radix ds) (2 ^ 64) ≡ false = grind (arith, nat_tests, large) in
    guarded (has_bytes ds) (list_all (λ d. is_digit d radix) ds) (nat_lt (digits_value radix ds) (2 ^ 64)) (digits_value radix ds) test

-- once the number so far and one more digit are too large, the whole is
pub grows_too_large : (radix n : ℕ) (ds : List ℕ) (i : ℕ) → 1 ≤ radix → i < length ds
    → digits_value_after radix n (drop i ds) ≡ digits_value radix ds
    → 2 ^ 64 ≤ n * radix + digit_value (get_or ds i 0) → None ≡ value_in radix ds
grows_too_large radix n ds i one within same large =
    let rest = after_ge radix (n * radix + digit_value (get_or ds i 0)) (drop (i + 1) ds) one in
    let whole = sym same ∙ ap (digits_value_after radix n) (drop_more ds i 0 within) in
    too_large radix ds (omega (arith, large, rest, whole))

pub is_value : (radix n : ℕ) (ds : List ℕ) (i : ℕ) → has_bytes ds ≡ true → length ds ≤ i
    → list_all (λ d. is_digit d radix) (drop i ds) ≡ list_all (λ d. is_digit d radix) ds
    → digits_value_after radix n (drop i ds) ≡ digits_value radix ds → n < 2 ^ 64 → Some n ≡ value_in radix ds
is_value radix n ds i some all digits same small =
    let none = drop_all i ds all in
    let passed = sym digits ∙ ap (list_all (λ d. is_digit d radix)) none in
    let value = sym same ∙ ap (digits_value_after radix n) none in
    let test : nat_lt n (2 ^ 64) ≡ true = grind (arith, nat_tests, small) in
    rw (some, passed, value, test) refl

pub some_bytes : (ds : List ℕ) → nat_eq (length ds) 0 ≡ false → has_bytes ds ≡ true
some_bytes [] e = absurd (cc)
some_bytes (d ∷ ds) e = refl

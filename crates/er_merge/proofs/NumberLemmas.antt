-- A number that was written in decimal digits is read back.
use Rattle.std.proofs.Common.{◌≡◌, ℕ, suc, ◌+◌, ◌%◌, ◌^◌, ◌<◌, Bool, true, false, not, List, [], ◌∷◌, ◌++◌, Some, length, take, drop, nat_lt, decimal, refl, sym, ap, ◌∙◌, arith}
use Rattle.std.specs.Char.{is_digit}
use Rattle.std.specs.List.{list_all, position_or_len}
use Rattle.std.specs.Str.Parse.{digits_value}
use Rattle.std.proofs.lemmas.Bool.Decides.{nat_tests}
use Rattle.std.proofs.lemmas.Bool.{and_parts}
use Rattle.std.proofs.lemmas.Fmt.{decimal_by_steps, decimal_is_IsNumeral}
use Rattle.std.proofs.lemmas.List.Folds.{list_all-append}
use Rattle.er_lines.specs.Lines.{has_bytes}
use Rattle.er_lines.specs.Number.{value_in}
use Rattle.er_merge.specs.Lines.{is_no_digit, number_in_front}

-- what all digits pass, the digits of a number pass
pub digits_pass : (p : ℕ → Bool) → ((d : ℕ) → d < 10 → p (48 + d) ≡ true) → (n : ℕ) → n < 2 ^ 64 → list_all p (decimal n) ≡ true
digits_pass p each =
    decimal_by_steps (λ n ds. list_all p ds ≡ true)
    (λ n small. rw (each n small) refl)
    (λ n ds large more. list_all-append p ds ((48 + n % 10) ∷ []) ∙ (rw (more, each (n % 10) (omega arith)) refl))

-- a text at whose front the test passes, or none
abbrev pub Stops : (ℕ → Bool) → List ℕ → Type 0
Stops p [] = Unit {0}
Stops p (byte ∷ bytes) = p byte ≡ true

place_none : (p : ℕ → Bool) (bytes : List ℕ) → Stops p bytes → position_or_len p bytes ≡ 0
place_none p [] stops = refl
place_none p (byte ∷ bytes) stops = rw stops refl

place_step : (p : ℕ → Bool) (x : ℕ) (xs bytes : List ℕ) (b : Bool) → p x ≡ b → list_all (λ x. not (p x)) (x ∷ xs) ≡ true → (list_all (λ x. not (p x)) xs ≡ true → position_or_len p (xs ++ bytes) ≡ length xs)
    → position_or_len p (x ∷ xs ++ bytes) ≡ suc (length xs)
place_step p x xs bytes true e all more = let parts = and_parts (not (p x)) (list_all (λ x. not (p x)) xs) all in let wrong = sym (ap not e) ∙ parts.0 in absurd (cc)
place_step p x xs bytes false e all more = let parts = and_parts (not (p x)) (list_all (λ x. not (p x)) xs) all in let inner = more parts.1 in rw e (omega (arith, inner))

-- what passes first stands behind these
pub place_behind : (p : ℕ → Bool) (xs bytes : List ℕ) → list_all (λ x. not (p x)) xs ≡ true → Stops p bytes → position_or_len p (xs ++ bytes) ≡ length xs
place_behind p [] bytes all stops = place_none p bytes stops
place_behind p (x ∷ xs) bytes all stops = place_step p x xs bytes (p x) refl all (λ rest. place_behind p xs bytes rest stops)

pub take_front : (xs ys : List ℕ) → take (length xs) (xs ++ ys) ≡ xs
take_front [] ys = refl
take_front (x ∷ xs) ys = ap (λ zs. x ∷ zs) (take_front xs ys)

pub drop_front : (xs ys : List ℕ) → drop (length xs) (xs ++ ys) ≡ ys
drop_front [] ys = refl
drop_front (x ∷ xs) ys = drop_front xs ys

some_bytes : (ds : List ℕ) → 0 < length ds → has_bytes ds ≡ true
some_bytes [] some = absurd (omega (arith, some))
some_bytes (d ∷ ds) some = refl

digit_test : (d : ℕ) → d < 10 → is_digit (48 + d) 10 ≡ true
digit_test d small = grind (arith, nat_tests, small)

no_digit_test : (d : ℕ) → d < 10 → not (is_no_digit (48 + d)) ≡ true
no_digit_test d small = grind (arith, nat_tests, small)

decimal_value : (n : ℕ) → n < 2 ^ 64 → value_in 10 (decimal n) ≡ Some n
decimal_value n small =
    let is = decimal_is_IsNumeral n small in
    let low : nat_lt (digits_value 10 (decimal n)) (2 ^ 64) ≡ true = (rw is.1 (grind (arith, nat_tests, small))) in
    rw (some_bytes (decimal n) is.0.0, digits_pass (λ digit. is_digit digit 10) digit_test n small, low) (ap Some is.1)

-- a number and what follows it
pub number_read : (n : ℕ) (rest : List ℕ) → n < 2 ^ 64 → Stops is_no_digit rest → number_in_front (decimal n ++ rest) ≡ Some (n, rest)
number_read n rest small stops =
    let place = place_behind is_no_digit (decimal n) rest (digits_pass (λ b. not (is_no_digit b)) no_digit_test n small) stops in
    rw (place, take_front (decimal n) rest, drop_front (decimal n) rest, decimal_value n small) refl

-- The place of an LF as a search finds it, and bytes that are all ASCII.
use Rattle.std.proofs.Common.{◌≡◌, ℕ, ◌<◌, ◌≤◌, Bool, true, false, List, Option, Some, None, length, get_or, unwrap_or, refl, sym, arith}
use Rattle.std.specs.Bool.{MatchBool}
use Rattle.std.specs.List.{list_all, position_or_len, AllPass, All}
use Rattle.std.specs.Str.{IsAscii, IsNotAscii, IsUtf8}
use Rattle.std.proofs.lemmas.Str.{IsUtf8-from_ascii}
use Rattle.std.proofs.lemmas.Str.Ascii.{IsAscii-from_all, All-from_ascii}
use Rattle.std.proofs.lemmas.List.Sums.{position_or_len_is, AllPass-from_list_all, list_all-from_AllPass}
use Rattle.std.proofs.lemmas.Bool.Decides.{nat_tests}
use Rattle.memchr.specs.Find.{IsFirstByte, is_byte}
use Rattle.er_lines.specs.Lines.{is_end, is_ascii}
use Rattle.er_lines.specs.Naming.{is_name_byte, is_site_byte}

not_true : (b : Bool) → ¬ (b ≡ true) → b ≡ false
not_true true denied = absurd (denied refl)
not_true false denied = refl

pub end_found : (xs : List ℕ) (r : Option ℕ) → IsFirstByte (is_byte 10) xs r → unwrap_or r (length xs) ≡ position_or_len is_end xs
end_found xs None nowhere = sym (position_or_len_is is_end xs (length xs) 0 (omega arith) (λ k below. not_true (is_end (get_or xs k 0)) (nowhere k (omega arith) below)) (λ past. absurd (omega arith)))
end_found xs (Some n) is =
    let high = is.0.high in
    sym (position_or_len_is is_end xs n 0 (omega arith) (λ k below. not_true (is_end (get_or xs k 0)) (is.0.before k (omega arith) below)) (λ within. is.1))

below : (xs : List ℕ) → list_all is_ascii xs ≡ true → All (λ b. b < 128) xs
below xs all = λ i d h. let e = AllPass-from_list_all is_ascii xs all i d h in grind (arith, nat_tests, e)

-- ASCII bytes are a text
pub ascii_text : (xs : List ℕ) → list_all is_ascii xs ≡ true → IsUtf8 xs
ascii_text xs all = IsUtf8-from_ascii xs (IsAscii-from_all xs (below xs all))

passes : (xs : List ℕ) → All (λ b. b < 128) xs → AllPass is_ascii xs
passes xs all = λ i d h. let small = all i d h in grind (arith, nat_tests, small)

ascii_tested : (xs : List ℕ) (b : Bool) → list_all is_ascii xs ≡ b → (i : ℕ) → 128 ≤ get_or xs i 0 → list_all is_ascii xs ≡ false
ascii_tested xs false e i large = e
ascii_tested xs true e i large = let small = IsAscii-from_all xs (below xs e) i in absurd (omega arith)

pub ascii_is : (xs : List ℕ) (b : Bool) → MatchBool b (IsAscii xs) (IsNotAscii xs) → b ≡ list_all is_ascii xs
ascii_is xs true is = sym (list_all-from_AllPass is_ascii xs (passes xs (All-from_ascii xs is)))
ascii_is xs false is = sym (ascii_tested xs (list_all is_ascii xs) refl is.0 is.1)

byte_ascii : (b : ℕ) → is_name_byte b ≡ true → is_ascii b ≡ true
byte_ascii b e = grind (arith, nat_tests, e)

-- the bytes of a name are ASCII
pub name_ascii : (xs : List ℕ) → list_all is_name_byte xs ≡ true → list_all is_ascii xs ≡ true
name_ascii xs e = list_all-from_AllPass is_ascii xs (λ i d h. byte_ascii (get_or xs i d) (AllPass-from_list_all is_name_byte xs e i d h))

byte_printed : (b : ℕ) → is_name_byte b ≡ true → is_site_byte b ≡ true
byte_printed b e = grind (arith, nat_tests, e)

-- the bytes of a name may stand in a site
pub name_printed : (xs : List ℕ) → list_all is_name_byte xs ≡ true → list_all is_site_byte xs ≡ true
name_printed xs e = list_all-from_AllPass is_site_byte xs (λ i d h. byte_printed (get_or xs i d) (AllPass-from_list_all is_name_byte xs e i d h))

printed_ascii : (b : ℕ) → is_site_byte b ≡ true → is_ascii b ≡ true
printed_ascii b e = grind (arith, nat_tests, e)

-- the bytes of a site are ASCII
pub site_ascii : (xs : List ℕ) → list_all is_site_byte xs ≡ true → list_all is_ascii xs ≡ true
site_ascii xs e = list_all-from_AllPass is_ascii xs (λ i d h. printed_ascii (get_or xs i d) (AllPass-from_list_all is_site_byte xs e i d h))

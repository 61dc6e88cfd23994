-- What is written is plain: by parts, and byte by byte.
use Rattle.std.proofs.Common.{◌≡◌, ℕ, zero, suc, ◌+◌, ◌-◌, ◌/◌, ◌%◌, ◌<◌, ◌≤◌, Bool, true, false, ◌&&◌, ◌||◌, cond, nat_le, nat_lt, nat_eq, List, [], ◌∷◌, ◌++◌, length, map, codes, take, drop, Option, refl, ap, ◌∙◌, arith}
use Rattle.std.proofs.lemmas.Bool.Decides.{nat_tests}
use Rattle.std.proofs.lemmas.List.Folds.{list_all-append}
use Rattle.std.specs.Char.{digit_char}
use Rattle.er_exit.specs.Plain.{escape, fitting, is_plain, is_plain_byte, is_printable, shown, shown_byte}
use Rattle.er_exit.specs.Quote.{front_mark, quote_from, start_of}
use Rattle.er_exit.specs.Written.{AddsPlain, line_text, part_text}
use Rattle.er_exit.specs.Writes.{WritesBytes}

pub plain_append : (front back : List ℕ) → is_plain front ≡ true → is_plain back ≡ true → is_plain (front ++ back) ≡ true
plain_append front back first second = list_all-append is_plain_byte front back ∙ ap (λ (b : Bool). b && is_plain back) first ∙ second

-- a byte from the space to the tilde
between : (byte : ℕ) → 32 ≤ byte → byte ≤ 126 → is_plain_byte byte ≡ true
between byte low high = grind (arith, nat_tests)

digit_low : (n : ℕ) → n < 16 → 32 ≤ digit_char n
digit_low n small = elim (nat_lt n 10) as (λ b. 32 ≤ cond b (48 + n) (87 + n)) [ true ↦ omega arith | false ↦ omega arith ]

digit_high : (n : ℕ) → n < 16 → digit_char n ≤ 126
digit_high n small = elim (nat_lt n 10) as (λ b. cond b (48 + n) (87 + n) ≤ 126) [ true ↦ omega arith | false ↦ omega arith ]

plain_digit : (n : ℕ) → is_plain_byte (digit_char (n % 16)) ≡ true
plain_digit n = let small : n % 16 < 16 = omega arith in between (digit_char (n % 16)) (digit_low (n % 16) small) (digit_high (n % 16) small)

two_plain : (a b : ℕ) → is_plain_byte a ≡ true → is_plain_byte b ≡ true → is_plain (a ∷ b ∷ []) ≡ true
two_plain a b first second = ap (λ (v : Bool). v && (is_plain_byte b && true)) first ∙ ap (λ (v : Bool). v && true) second

plain_hex : (byte : ℕ) → is_plain (codes "\\x" ++ digit_char (byte / 16 % 16) ∷ digit_char (byte % 16) ∷ []) ≡ true
plain_hex byte = two_plain (digit_char (byte / 16 % 16)) (digit_char (byte % 16)) (plain_digit (byte / 16)) (plain_digit byte)

plain_escape : (byte : ℕ) → is_plain (escape byte) ≡ true
plain_escape byte =
    elim (nat_eq byte 9) as (λ b. is_plain (cond b (codes "\\t") (cond (nat_eq byte 13) (codes "\\r") (codes "\\x" ++ digit_char (byte / 16 % 16) ∷ digit_char (byte % 16) ∷ []))) ≡ true) [
      | true ↦ refl
      | false ↦ elim (nat_eq byte 13) as (λ b. is_plain (cond b (codes "\\r") (codes "\\x" ++ digit_char (byte / 16 % 16) ∷ digit_char (byte % 16) ∷ [])) ≡ true) [
        | true ↦ refl
        | false ↦ plain_hex byte
      ]
    ]

shown_by : (byte : ℕ) (b : Bool) → is_printable byte ≡ b → is_plain (cond b (byte ∷ []) (escape byte)) ≡ true
shown_by byte true printable = ap (λ (b : Bool). (b || nat_eq byte 10) && true) printable
shown_by byte false other = plain_escape byte

pub plain_byte : (byte : ℕ) → is_plain (shown_byte byte) ≡ true
unfolding shown_byte
plain_byte byte = shown_by byte (is_printable byte) refl

pub plain_shown : (bytes : List ℕ) → is_plain (shown bytes) ≡ true
plain_shown [] = refl
plain_shown (byte ∷ bytes) = plain_append (shown_byte byte) (shown bytes) (plain_byte byte) (plain_shown bytes)

pub plain_fitting : (columns : ℕ) (bytes : List ℕ) → is_plain (fitting columns bytes) ≡ true
unfolding fitting
plain_fitting columns [] = refl
plain_fitting columns (byte ∷ bytes) =
    let more = plain_append (shown_byte byte) (fitting (columns - length (shown_byte byte)) bytes) (plain_byte byte) (plain_fitting (columns - length (shown_byte byte)) bytes) in
    elim (nat_le (length (shown_byte byte)) columns) as (λ b. is_plain (cond b (shown_byte byte ++ fitting (columns - length (shown_byte byte)) bytes) (codes "..")) ≡ true) [
      | true ↦ more
      | false ↦ refl
    ]

plain_spaces : (bytes : List ℕ) → is_plain (map (λ (byte : ℕ). 32) bytes) ≡ true
plain_spaces [] = refl
plain_spaces (byte ∷ bytes) = plain_spaces bytes

plain_mark : (start : ℕ) → is_plain (front_mark start) ≡ true
plain_mark start = elim (nat_le start 0) as (λ b. is_plain (cond b [] (codes "..")) ≡ true) [ true ↦ refl | false ↦ refl ]

plain_quote : (line : List ℕ) (start place : ℕ) → is_plain (quote_from line start place) ≡ true
plain_quote line start place =
    let before = front_mark start ++ shown (take (place - start) (drop start line)) in
    let cut = fitting 100 (drop start line) in
    plain_append (codes "    " ++ front_mark start ++ cut ++ 10 ∷ [] ++ codes "    " ++ map (λ (byte : ℕ). 32) before) (codes "^\n")
    (plain_append (codes "    " ++ front_mark start ++ cut ++ 10 ∷ [] ++ codes "    ") (map (λ (byte : ℕ). 32) before)
    (plain_append (codes "    " ++ front_mark start ++ cut ++ 10 ∷ []) (codes "    ")
    (plain_append (codes "    " ++ front_mark start ++ cut) (10 ∷ [])
    (plain_append (codes "    " ++ front_mark start) cut (plain_append (codes "    ") (front_mark start) refl (plain_mark start)) (plain_fitting 100 (drop start line)))
    refl)
    refl)
    (plain_spaces before))
    refl

pub plain_line : (line : List ℕ) (place : ℕ) → is_plain (line_text line place) ≡ true
plain_line [] place = refl
plain_line (byte ∷ bytes) place = plain_quote (byte ∷ bytes) (start_of (byte ∷ bytes) place) place

pub plain_part : (front text : List ℕ) (columns : ℕ) (back : List ℕ) → is_plain front ≡ true → is_plain back ≡ true → is_plain (part_text front text columns back) ≡ true
plain_part front [] columns back first last = refl
plain_part front (byte ∷ bytes) columns back first last =
    plain_append (front ++ fitting columns (byte ∷ bytes)) back (plain_append front (fitting columns (byte ∷ bytes)) first (plain_fitting columns (byte ∷ bytes))) last

-- plain text behind plain text
pub plain_more : (old text new : List ℕ) → is_plain old ≡ true → is_plain text ≡ true → new ≡ old ++ text → is_plain new ≡ true
plain_more old text new first second put = ap is_plain put ∙ plain_append old text first second

both : (a b c : Bool) → (a && b) ≡ true → (b ≡ true → c ≡ true) → (a && c) ≡ true
both true b c all more = more all
both false b c all more = all

plain_take : (n : ℕ) (text : List ℕ) → is_plain text ≡ true → is_plain (take n text) ≡ true
plain_take zero text plain = refl
plain_take (suc n) [] plain = refl
plain_take (suc n) (byte ∷ bytes) plain = both (is_plain_byte byte) (is_plain bytes) (is_plain (take n bytes)) plain (plain_take n bytes)

pub adds : (old new : Option (List ℕ)) (text : List ℕ) (failed : Bool) → is_plain text ≡ true → WritesBytes old new text failed → AddsPlain old new
adds old new text false plain wrote = (text, plain, wrote)
adds old new text true plain wrote = (take wrote.0 text, plain_take wrote.0 text plain, wrote.1)

-- Hexadecimal digits, written one by one from the last.
use Rattle.std.proofs.Common.{◌≡◌, ◌≢◌, ℕ, zero, suc, ◌+◌, ◌-◌, ◌/◌, ◌%◌, ◌<◌, ◌≤◌, List, [], ◌∷◌, ◌++◌, length, set, take, drop, refl, sym, ap, ◌∙◌, append_assoc, arith}
use Rattle.std.proofs.lemmas.List.{drop-set, take-append-drop}
use Rattle.std.specs.Char.{digit_char}
use Rattle.er_lines.specs.Number.{hex_digits}

hex_more : (count n : ℕ) → count ≢ 0 → hex_digits count n ≡ hex_digits (count - 1) (n / 16) ++ digit_char (n % 16) ∷ []
unfolding hex_digits
hex_more zero n some = absurd (some refl)
hex_more (suc k) n some = let e : suc k - 1 ≡ k = omega arith in rw e refl

hex_none : (count n : ℕ) → count ≡ 0 → hex_digits count n ≡ []
unfolding hex_digits
hex_none zero n none = refl
hex_none (suc k) n none = absurd (omega arith)

-- one digit more stands in front of those that were written
pub hex_step : (word : List ℕ) (at n d : ℕ) → 3 < at → at ≤ length word → d ≡ digit_char (n % 16)
    → hex_digits (at - 1 - 3) (n / 16) ++ drop (at - 1) (set word (at - 1) d) ≡ hex_digits (at - 3) n ++ drop at word
hex_step word at n d more fits is =
    let place : at - 1 + 1 ≡ at = omega arith in
    let count : at - 3 - 1 ≡ at - 1 - 3 = omega arith in
    let some : at - 3 ≢ 0 = λ none. absurd (omega arith) in
    let front = hex_digits (at - 1 - 3) (n / 16) in
    ap (λ (t : List ℕ). front ++ t) (drop-set word (at - 1) d (omega arith) ∙ ap (λ (k : ℕ). d ∷ drop k word) place ∙ ap (λ (x : ℕ). x ∷ drop at word) is)
    ∙ sym (append_assoc front (digit_char (n % 16) ∷ []) (drop at word))
    ∙ ap (λ (t : List ℕ). t ++ drop at word) (sym (hex_more (at - 3) n some ∙ ap (λ (k : ℕ). hex_digits k (n / 16) ++ digit_char (n % 16) ∷ []) count))

-- all digits are written
pub hex_whole : (word front all : List ℕ) (at n : ℕ) → at ≡ 3 → take 3 word ≡ front → hex_digits (at - 3) n ++ drop at word ≡ all → word ≡ front ++ all
hex_whole word front all at n done is written =
    let none = hex_none (at - 3) n (omega arith) in
    let rest : drop 3 word ≡ all = ap (λ (k : ℕ). drop k word) (sym done) ∙ sym (ap (λ (t : List ℕ). t ++ drop at word) none) ∙ written in
    sym (take-append-drop 3 word) ∙ ap (λ (t : List ℕ). t ++ drop 3 word) is ∙ ap (λ (t : List ℕ). front ++ t) rest

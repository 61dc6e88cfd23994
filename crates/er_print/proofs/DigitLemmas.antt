-- Texts that are put one behind another.
use Rattle.std.proofs.Common.{◌≡◌, ℕ, ◌*◌, ◌/◌, ◌%◌, List, [], ◌∷◌, ◌++◌, codes, refl, ap, ◌∙◌, append_assoc}
use Rattle.std.specs.Char.{digit_char}
use Rattle.er_lines.specs.Number.{hex_digits}

-- two of them
pub put_two : (old front new first second : List ℕ) → front ≡ old ++ first → new ≡ front ++ second → new ≡ old ++ (first ++ second)
put_two old front new first second one two = two ∙ ap (λ (text : List ℕ). text ++ second) one ∙ append_assoc old first second

-- and three
pub put_three : (old a b c r s t : List ℕ) → a ≡ old ++ r → b ≡ a ++ s → c ≡ b ++ t → c ≡ old ++ (r ++ s ++ t)
put_three old a b c r s t first second third = rw (third, second, first) (simp append_assoc)

-- and five
pub put_five : (old a b c d e r s t u v : List ℕ) → a ≡ old ++ r → b ≡ a ++ s → c ≡ b ++ t → d ≡ c ++ u → e ≡ d ++ v
    → e ≡ old ++ (r ++ s ++ t ++ u ++ v)
put_five old a b c d e r s t u v first second third fourth fifth =
    rw (fifth, fourth, third, second, first) (simp append_assoc)

-- the parts of a reason, of which two are put at once
pub put_parts : (old a b c d e f g h r s t u v w x y z : List ℕ) → a ≡ old ++ r → b ≡ a ++ s → c ≡ b ++ (t ++ u) → d ≡ c ++ v → e ≡ d ++ w → f ≡ e ++ x → g ≡ f ++ y → h ≡ g ++ z
    → h ≡ old ++ (r ++ s ++ t ++ u ++ v ++ w ++ x ++ y ++ z)
put_parts old a b c d e f g h r s t u v w x y z first second third fourth fifth sixth seventh eighth =
    rw (eighth, seventh, sixth, fifth, fourth, third, second, first) (simp append_assoc)

-- twelve hexadecimal digits behind `0x`, four at a time
address_pieces : (old : List ℕ) (low : ℕ) → (((old ++ codes "0x") ++ hex_digits 4 (low / 16 / 16 / 16 / 16 / 16 / 16 / 16 / 16)) ++ hex_digits 4 (low / 16 / 16 / 16 / 16)) ++ hex_digits 4 low
    ≡ old ++ (codes "0x" ++ hex_digits 12 low)
unfolding hex_digits
address_pieces old low =
    let a = hex_digits 4 (low / 16 / 16 / 16 / 16 / 16 / 16 / 16 / 16) in
    let b = hex_digits 4 (low / 16 / 16 / 16 / 16) in
    let c = hex_digits 4 low in
    append_assoc ((old ++ codes "0x") ++ a) b c ∙ append_assoc (old ++ codes "0x") a (b ++ c) ∙ append_assoc old (codes "0x") (a ++ (b ++ c))

pub put_address : (old a b c d h m l : List ℕ) (low word : ℕ) → low ≡ 4 * word → a ≡ old ++ codes "0x" → b ≡ a ++ h → c ≡ b ++ m → d ≡ c ++ l
    → h ≡ hex_digits 4 (low / 16 / 16 / 16 / 16 / 16 / 16 / 16 / 16) → m ≡ hex_digits 4 (low / 16 / 16 / 16 / 16) → l ≡ hex_digits 4 low → d ≡ old ++ (codes "0x" ++ hex_digits 12 (4 * word))
put_address old a b c d h m l low word is first second third fourth high middle last =
    rw (fourth, third, second, first, high, middle, last, ← is) (address_pieces old low)

-- the last four digits of a number
pub four_found : (n a b c d : ℕ) → a ≡ digit_char (n / 16 / 16 / 16 % 16) → b ≡ digit_char (n / 16 / 16 % 16) → c ≡ digit_char (n / 16 % 16) → d ≡ digit_char (n % 16)
    → a ∷ b ∷ c ∷ d ∷ [] ≡ hex_digits 4 n
unfolding hex_digits
four_found n a b c d first second third fourth = rw (first, second, third, fourth) refl

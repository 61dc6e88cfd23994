-- The checksum by words of 8 bytes, and the number of 8 bytes.
use Rattle.std.proofs.Common.{◌≡◌, ℕ, ◌≤◌, List, [], ◌∷◌, length, take, drop, ap, arith}
use Rattle.std.specs.Int.{from_le_bytes, w64}
use Rattle.er_binary.specs.Meaning.{mixed, mixed_all}
use Rattle.er_binary.specs.Numbers.{number}

word_number : (a b c d e f g h : ℕ) → from_le_bytes w64 (a ∷ b ∷ c ∷ d ∷ e ∷ f ∷ g ∷ h ∷ []) ≡ number (a ∷ b ∷ c ∷ d ∷ e ∷ f ∷ g ∷ h ∷ [])
word_number a b c d e f g h = omega arith

-- a whole word in front is mixed in
pub word_mixed : (sum : ℕ) (bytes : List ℕ) → 8 ≤ length bytes → mixed_all (mixed sum (from_le_bytes w64 (take 8 bytes))) (drop 8 bytes) ≡ mixed_all sum bytes
word_mixed sum [] long = absurd (omega arith)
word_mixed sum (a ∷ []) long = absurd (omega arith)
word_mixed sum (a ∷ b ∷ []) long = absurd (omega arith)
word_mixed sum (a ∷ b ∷ c ∷ []) long = absurd (omega arith)
word_mixed sum (a ∷ b ∷ c ∷ d ∷ []) long = absurd (omega arith)
word_mixed sum (a ∷ b ∷ c ∷ d ∷ e ∷ []) long = absurd (omega arith)
word_mixed sum (a ∷ b ∷ c ∷ d ∷ e ∷ f ∷ []) long = absurd (omega arith)
word_mixed sum (a ∷ b ∷ c ∷ d ∷ e ∷ f ∷ g ∷ []) long = absurd (omega arith)
word_mixed sum (a ∷ b ∷ c ∷ d ∷ e ∷ f ∷ g ∷ h ∷ bytes) long = ap (λ (word : ℕ). mixed_all (mixed sum word) bytes) (word_number a b c d e f g h)

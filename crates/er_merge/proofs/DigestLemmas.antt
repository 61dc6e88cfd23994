-- The digest by words of 8 bytes.
use Rattle.std.proofs.Common.{◌≡◌, ℕ, ◌<◌, ◌≤◌, List, [], ◌∷◌, length, take, drop, refl, arith}
use Rattle.std.specs.Int.{from_le_bytes, w64}
use Rattle.er_merge.specs.Headings.{digest_after, digest_each, digest_with}

-- a whole word in front
pub word_digested : (sum : ℕ) (bytes : List ℕ) → 8 ≤ length bytes → digest_after (digest_with sum (from_le_bytes w64 (take 8 bytes))) (drop 8 bytes) ≡ digest_after sum bytes
word_digested sum [] long = absurd (omega arith)
word_digested sum (a ∷ []) long = absurd (omega arith)
word_digested sum (a ∷ b ∷ []) long = absurd (omega arith)
word_digested sum (a ∷ b ∷ c ∷ []) long = absurd (omega arith)
word_digested sum (a ∷ b ∷ c ∷ d ∷ []) long = absurd (omega arith)
word_digested sum (a ∷ b ∷ c ∷ d ∷ e ∷ []) long = absurd (omega arith)
word_digested sum (a ∷ b ∷ c ∷ d ∷ e ∷ f ∷ []) long = absurd (omega arith)
word_digested sum (a ∷ b ∷ c ∷ d ∷ e ∷ f ∷ g ∷ []) long = absurd (omega arith)
word_digested sum (a ∷ b ∷ c ∷ d ∷ e ∷ f ∷ g ∷ h ∷ bytes) long = refl

-- what is left behind the words
pub rest_digested : (sum : ℕ) (bytes : List ℕ) → length bytes < 8 → digest_after sum bytes ≡ digest_each sum bytes
rest_digested sum [] short = refl
rest_digested sum (a ∷ []) short = refl
rest_digested sum (a ∷ b ∷ []) short = refl
rest_digested sum (a ∷ b ∷ c ∷ []) short = refl
rest_digested sum (a ∷ b ∷ c ∷ d ∷ []) short = refl
rest_digested sum (a ∷ b ∷ c ∷ d ∷ e ∷ []) short = refl
rest_digested sum (a ∷ b ∷ c ∷ d ∷ e ∷ f ∷ []) short = refl
rest_digested sum (a ∷ b ∷ c ∷ d ∷ e ∷ f ∷ g ∷ []) short = refl
rest_digested sum (a ∷ b ∷ c ∷ d ∷ e ∷ f ∷ g ∷ h ∷ bytes) short = absurd (omega arith)

-- The hexadecimal digits of a number, of which the code puts the last one last.
use Rattle.std.proofs.Common.{◌≡◌, ◌≢◌, ℕ, zero, suc, ◌-◌, ◌/◌, ◌%◌, ◌∷◌, [], ◌++◌, refl, arith}
use Rattle.std.specs.Char.{digit_char}
use Rattle.er_lines.specs.Number.{hex_digits}

pub hex_none : (count n : ℕ) → count ≡ 0 → hex_digits count n ≡ []
unfolding hex_digits
hex_none zero n e = refl
hex_none (suc k) n e = absurd (omega arith)

pub hex_more : (count n : ℕ) → count ≢ 0 → hex_digits count n ≡ hex_digits (count - 1) (n / 16) ++ digit_char (n % 16) ∷ []
unfolding hex_digits
hex_more zero n some = absurd (some refl)
hex_more (suc k) n some = let e : suc k - 1 ≡ k = omega arith in rw e refl

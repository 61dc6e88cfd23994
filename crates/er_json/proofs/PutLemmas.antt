-- Texts put one behind another.
use Rattle.std.proofs.Common.{◌≡◌, ◌-◌, ℕ, List, ◌++◌, length, take, drop, append_assoc, length-drop, arith}
use Rattle.std.proofs.lemmas.List.{take_all}

pub put_three : (old a b c r s t : List ℕ) → a ≡ old ++ r → b ≡ a ++ s → c ≡ b ++ t → c ≡ old ++ (r ++ s ++ t)
put_three old a b c r s t first second third = rw (third, second, first) (simp append_assoc)

pub put_six : (old a b c d e f r s t u v w : List ℕ) → a ≡ old ++ r → b ≡ a ++ s → c ≡ b ++ t → d ≡ c ++ u → e ≡ d ++ v → f ≡ e ++ w → f ≡ old ++ (r ++ s ++ t ++ u ++ v ++ w)
put_six old a b c d e f r s t u v w e1 e2 e3 e4 e5 e6 = rw (e6, e5, e4, e3, e2, e1) (simp append_assoc)

pub put_two : (old a b r s : List ℕ) → a ≡ old ++ r → b ≡ a ++ s → b ≡ old ++ (r ++ s)
put_two old a b r s first second = rw (second, first) (simp append_assoc)

pub put_four : (old a b c d r s t u : List ℕ) → a ≡ old ++ r → b ≡ a ++ s → c ≡ b ++ t → d ≡ c ++ u → d ≡ old ++ (r ++ s ++ t ++ u)
put_four old a b c d r s t u first second third fourth = rw (fourth, third, second, first) (simp append_assoc)

-- all that is behind a place
pub rest_all : (n : ℕ) (s : List ℕ) → take (length s - n) (drop n s) ≡ drop n s
rest_all n s = let long : length (drop n s) ≡ length s - n = length-drop n s in take_all (length s - n) (drop n s) (omega arith)

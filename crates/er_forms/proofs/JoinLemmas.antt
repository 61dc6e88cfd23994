-- What was put part by part is the parts, one behind another.
use Rattle.std.proofs.Common.{◌≡◌, ◌++◌, ℕ, List, [], append_assoc}

pub ten_parts : (t t1 t2 t3 t4 t5 t6 t7 t8 t9 t10 a b c d e f g h i j : List ℕ) → t ≡ [] → t1 ≡ t ++ a → t2 ≡ t1 ++ b → t3 ≡ t2 ++ c → t4 ≡ t3 ++ d → t5 ≡ t4 ++ e
    → t6 ≡ t5 ++ f → t7 ≡ t6 ++ g → t8 ≡ t7 ++ h → t9 ≡ t8 ++ i → t10 ≡ t9 ++ j → t10 ≡ a ++ b ++ c ++ d ++ e ++ f ++ g ++ h ++ i ++ j
ten_parts t t1 t2 t3 t4 t5 t6 t7 t8 t9 t10 a b c d e f g h i j e0 e1 e2 e3 e4 e5 e6 e7 e8 e9 e10 =
    simp (e10, e9, e8, e7, e6, e5, e4, e3, e2, e1, e0, append_assoc)

-- The table of bytes is right at each of its 256 places.
use Rattle.std.proofs.Common.{◌≡◌, ℕ, zero, suc, ◌<◌, Bool, true, false, not, ◌&&◌, List, [], ◌∷◌, get_or, min, nat_le, nat_eq, refl, ap, ◌∙◌, arith, inl, inr, ◌⊎◌}
use Rattle.std.specs.List.{list_all}
use Rattle.std.specs.Char.{digit_value}
use Rattle.std.proofs.lemmas.Bool.{and_parts, cases_lt, eqb-true}
use Rattle.er_lines.specs.Naming.{is_name_byte}
use Rattle.er_lines.specs.declared.classes.TheConstants.{CLASSES}

abbrev same : Bool → Bool → Bool
same true b = b
same false b = not b

abbrev test : ℕ → Bool
test b =
    nat_eq (min (get_or CLASSES b 0) 36) (digit_value b) && same (nat_le (get_or CLASSES b 0) 36) (is_name_byte b)

pub below : ℕ → List ℕ
below zero = []
below (suc n) = n ∷ below n

pub all : list_all test (below 256) ≡ true
unfolding below
all = refl

last_or_below : (n b : ℕ) → b < suc n → (b ≡ n) ⊎ (b < n)
last_or_below n b small = elim (cases_lt b n) [ inl less ↦ inr less | inr more ↦ inl (omega arith) ]

picked : (p : ℕ → Bool) (n b : ℕ) → b < n → list_all p (below n) ≡ true → p b ≡ true
unfolding below
picked p zero b small e = absurd (omega arith)
picked p (suc n) b small e =
    let parts = and_parts (p n) (list_all p (below n)) e in
    elim (last_or_below n b small) [ inl last ↦ ap p last ∙ parts.0 | inr less ↦ picked p n b less parts.1 ]

same_is : (a b : Bool) → same a b ≡ true → a ≡ b
same_is true true e = refl
same_is false false e = refl
same_is true false e = absurd (cc)
same_is false true e = absurd (cc)

pub value_right : (b : ℕ) → b < 256 → min (get_or CLASSES b 0) 36 ≡ digit_value b
value_right b small = eqb-true (min (get_or CLASSES b 0) 36) (digit_value b)
    (and_parts (nat_eq (min (get_or CLASSES b 0) 36) (digit_value b)) (same (nat_le (get_or CLASSES b 0) 36) (is_name_byte b)) (picked test 256 b small all)).0

pub name_right : (b : ℕ) → b < 256 → nat_le (get_or CLASSES b 0) 36 ≡ is_name_byte b
name_right b small =
    same_is (nat_le (get_or CLASSES b 0) 36) (is_name_byte b)
    (and_parts (nat_eq (min (get_or CLASSES b 0) 36) (digit_value b)) (same (nat_le (get_or CLASSES b 0) 36) (is_name_byte b)) (picked test 256 b small all)).1

-- Facts on Booleans that std doesn't have, and that several crates use.
use Rattle.std.proofs.Common.{◌≡◌, ℕ, Bool, true, false, ◌&&◌, ◌||◌, ◌==◌, refl}
use Rattle.std.proofs.lemmas.Bool.{eq-eqb}

pub itself : (x : ℕ) → (x == x) ≡ true
itself x = eq-eqb x x refl

pub or_twice : (a b : Bool) → (a || b) ≡ (a || (a || b))
or_twice true b = refl
or_twice false b = refl

pub or_swap : (a b c : Bool) → (a || (b || c)) ≡ (b || (a || c))
or_swap true true c = refl
or_swap true false c = refl
or_swap false b c = refl

pub first_false : (a b : Bool) → (a || b) ≡ false → a ≡ false
first_false true b e = e
first_false false b e = refl

pub second_false : (a b : Bool) → (a || b) ≡ false → b ≡ false
second_false true b e = cc
second_false false b e = e

pub and_second : (a b : Bool) → (a && b) ≡ true → b ≡ true
and_second true b e = e
and_second false b e = cc

pub and_false : (a : Bool) → false ≡ (a && false)
and_false true = refl
and_false false = refl

-- what follows from the first changes nothing
pub and_known : (a b : Bool) → (a ≡ true → b ≡ true) → (a && b) ≡ a
and_known true b h = h refl
and_known false b h = refl

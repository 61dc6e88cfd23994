-- What the next byte is to a line that is sought.
use Rattle.std.proofs.Common.{◌≡◌, ◌≢◌, ℕ, ◌-◌, ◌<◌, Bool, true, false, cond, nat_eq, List, [], ◌∷◌, ◌++◌, refl, sym, ap, ◌∙◌, append_assoc, arith}
use Rattle.std.proofs.lemmas.Bool.Decides.{nat_tests}
use Rattle.std.proofs.lemmas.List.{append-nil}
use Rattle.er_exit.specs.Inner.Excerpts.{line_at, line_with}

is : (a b : ℕ) → a ≡ b → nat_eq a b ≡ true
is a b e = grind (arith, nat_tests)

differs : (a b : ℕ) → a ≢ b → nat_eq a b ≡ false
differs a b e = grind (arith, nat_tests)

-- a line feed among the lines before
skipped : (before byte : ℕ) (rest : List ℕ) → 0 < before → byte ≡ 10 → line_at before (byte ∷ rest) ≡ line_at (before - 1) rest
unfolding line_at
skipped before byte rest some end =
    let not_last : nat_eq before 0 ≡ false = differs before 0 (omega arith) in
    rw (is byte 10 end) (rw not_last refl)

-- another byte of these lines
passed : (before byte : ℕ) (rest : List ℕ) → 0 < before → byte ≢ 10 → line_at before (byte ∷ rest) ≡ line_at before rest
unfolding line_at
passed before byte rest some more =
    let not_last : nat_eq before 0 ≡ false = differs before 0 (omega arith) in
    rw (differs byte 10 more) (rw not_last refl)

-- the line's end
ended : (before byte : ℕ) (rest : List ℕ) → before ≡ 0 → byte ≡ 10 → line_at before (byte ∷ rest) ≡ []
unfolding line_at
ended before byte rest last end = rw (is byte 10 end) (rw (is before 0 last) refl)

-- a byte of the line
gone_on : (before byte : ℕ) (rest : List ℕ) → before ≡ 0 → byte ≢ 10 → line_at before (byte ∷ rest) ≡ byte ∷ line_at before rest
unfolding line_at
gone_on before byte rest last more = rw (differs byte 10 more) (rw (is before 0 last) refl)

-- the same of what the search comes to
pub with_skipped : (before byte : ℕ) (done : Bool) (found rest : List ℕ) → 0 < before → byte ≡ 10
    → line_with (before - 1) done found rest ≡ line_with before done found (byte ∷ rest)
with_skipped before byte done found rest some end = ap (λ (line : List ℕ). cond done found (found ++ line)) (sym (skipped before byte rest some end))

pub with_passed : (before byte : ℕ) (done : Bool) (found rest : List ℕ) → 0 < before → byte ≢ 10
    → line_with before done found rest ≡ line_with before done found (byte ∷ rest)
with_passed before byte done found rest some more = ap (λ (line : List ℕ). cond done found (found ++ line)) (sym (passed before byte rest some more))

pub with_ended : (before byte : ℕ) (done : Bool) (found rest : List ℕ) → before ≡ 0 → byte ≡ 10 → done ≡ false
    → found ≡ line_with before done found (byte ∷ rest)
with_ended before byte done found rest last end still =
    rw still (sym (ap (λ (line : List ℕ). found ++ line) (ended before byte rest last end) ∙ append-nil found))

pub with_gone_on : (before byte : ℕ) (done : Bool) (found more rest : List ℕ) → before ≡ 0 → byte ≢ 10 → done ≡ false → more ≡ found ++ byte ∷ []
    → line_with before done more rest ≡ line_with before done found (byte ∷ rest)
with_gone_on before byte done found more rest last on still put =
    rw still (ap (λ (front : List ℕ). front ++ line_at before rest) put ∙ append_assoc found (byte ∷ []) (line_at before rest)
    ∙ sym (ap (λ (line : List ℕ). found ++ line) (gone_on before byte rest last on)))

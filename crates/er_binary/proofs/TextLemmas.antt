-- Texts that are put one behind another.
use Rattle.std.proofs.Common.{◌≡◌, ℕ, List, ◌++◌, cond, ap, ◌∙◌, append_assoc, Option, Some, None, IfNone, IfSome, Result, Ok, Err, OnOk, OnErr, IfOk}
use Rattle.std.specs.Result.{is_ok}

-- two texts put one behind the other
pub put_two : (old front new first second : List ℕ) → front ≡ old ++ first → new ≡ front ++ second → new ≡ old ++ (first ++ second)
put_two old front new first second one two = two ∙ ap (λ (text : List ℕ). text ++ second) one ∙ append_assoc old first second

-- and four
pub put_four : (old a b c d r s t u : List ℕ) → a ≡ old ++ r → b ≡ a ++ s → c ≡ b ++ t → d ≡ c ++ u → d ≡ old ++ (r ++ s ++ t ++ u)
put_four old a b c d r s t u first second third fourth = rw (fourth, third, second, first) (simp append_assoc)

-- and five, of which the last are two pairs
pub put_five : (old a b c d e r s t u v : List ℕ) → a ≡ old ++ r → b ≡ a ++ s → c ≡ b ++ t → d ≡ c ++ u → e ≡ d ++ v
    → e ≡ old ++ (r ++ (s ++ t) ++ (u ++ v))
put_five old a b c d e r s t u v first second third fourth fifth =
    rw (fifth, fourth, third, second, first) (simp append_assoc)

-- what was put, unless memory was refused
pub put_if_ok : {T E : Type 0} (r : Result T E) (new more old : List ℕ) → new ≡ cond (is_ok r) more old → OnOk r (new ≡ more)
put_if_ok (Ok v) new more old is = is
put_if_ok (Err e) new more old is = tt

-- what holds anyway holds after an error
pub on_err_of : {T E : Type 0} (r : Result T E) (P : Type 0) → P → OnErr r P
on_err_of (Ok v) P p = tt
on_err_of (Err e) P p = p

-- what follows from both outcomes
pub either_way : {T E P Q R : Type 0} (r : Result T E) → OnOk r P → OnErr r Q → (P → R) → (Q → R) → R
either_way (Ok v) ok err f g = f ok
either_way (Err e) ok err f g = g err

-- what holds anyway holds where nothing is given
pub none_of : {T : Type 0} (o : Option T) (P : Type 0) → P → IfNone o P
none_of None P p = p
none_of (Some x) P p = tt

-- what follows from what a call that gave nothing, or something, says
pub none_then : {T P Q : Type 0} (o : Option T) → IfNone o P → (P → Q) → IfNone o Q
none_then None p f = f p
none_then (Some x) p f = tt

pub some_then : {T : Type 0} {P Q : T → Type 0} (o : Option T) → IfSome o P → ((x : T) → P x → Q x) → IfSome o Q
some_then None p f = tt
some_then (Some x) p f = f x p

-- what holds of what a call gave, under a premise that isn't asked for
pub ok_given : {T E : Type 0} (P : Type 0) (Q : T → Type 0) (r : Result T E) → IfOk r Q → IfOk r (λ x. P → Q x)
ok_given P Q (Ok v) q = λ p. q
ok_given P Q (Err e) q = tt

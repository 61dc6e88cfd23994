-- Names that are added behind others: each is known then, and those that were known keep their numbers.
use Rattle.std.proofs.Common.{◌≡◌, ℕ, zero, suc, ◌<◌, ◌≤◌, Bool, true, false, ◌||◌, List, [], ◌∷◌, ◌++◌, length, length-append, refl, ap, sym, ◌∙◌, subst, arith}
use Rattle.std.specs.Prelude.{if◌then◌else◌}
use Rattle.std.specs.Str.{bytes_eq}
use Rattle.std.proofs.lemmas.Slice.Eq.{bytes_eq-Decides}
use Rattle.std.proofs.lemmas.List.{get_or_append_left}
use Rattle.er_trace.specs.Names.{is_known, number_of, with_name}
use Rattle.er_trace.specs.Appended.{with_names, name_at, renumbered}
use Rattle.er_trace.proofs.NamesLemmas.{with_known}
use Rattle.er_trace.proofs.NumberLemmas.{within, named, kept, still, again, given}

-- names that were known are known still, by the same number
pub still_there : (a b : List (List ℕ)) (x : List ℕ) → is_known a x ≡ true → is_known (with_names a b) x ≡ true
still_there a [] x known = known
still_there a (y ∷ b) x known = still_there (with_name a y) b x (still a x y known)

pub kept_number : (a b : List (List ℕ)) (x : List ℕ) → is_known a x ≡ true → number_of (with_names a b) x ≡ number_of a x
kept_number a [] x known = refl
kept_number a (y ∷ b) x known = kept_number (with_name a y) b x (still a x y known) ∙ kept a x y known

-- names that were added are known
there-at : (p : Bool) (a b : List (List ℕ)) (x y : List ℕ) → bytes_eq x y ≡ p → (is_known b x ≡ true → is_known (with_names (with_name a y) b) x ≡ true)
    → (p || is_known b x) ≡ true → is_known (with_names (with_name a y) b) x ≡ true
there-at true a b x y same rest known =
    let P : List ℕ → Type 0 = λ z. is_known (with_name a y) z ≡ true in
    still_there (with_name a y) b x (subst P (sym ((bytes_eq-Decides x y).0 same)) (given a y))
there-at false a b x y same rest known = rest known

pub there : (a b : List (List ℕ)) (x : List ℕ) → is_known b x ≡ true → is_known (with_names a b) x ≡ true
there a [] x known = absurd (cc)
there a (y ∷ b) x known = there-at (bytes_eq x y) a b x y refl (there (with_name a y) b x) known

-- a name that comes last is added last
pub last : (a b : List (List ℕ)) (x : List ℕ) → with_names a (b ++ x ∷ []) ≡ with_name (with_names a b) x
last a [] x = refl
last a (y ∷ b) x = last (with_name a y) b x

more-at : (p : Bool) (a b : List (List ℕ)) (x : List ℕ) → is_known b x ≡ p → with_names a (if p then b else (b ++ x ∷ [])) ≡ with_name (with_names a b) x
more-at true a b x known = sym (with_known (with_names a b) x (there a b x known))
more-at false a b x known = last a b x

pub with_more : (a b : List (List ℕ)) (x : List ℕ) → with_names a (with_name b x) ≡ with_name (with_names a b) x
with_more a b x = more-at (is_known b x) a b x refl

-- a name that has a number is known
or_right : (p q : Bool) → q ≡ true → (p || q) ≡ true
or_right true q known = refl
or_right false q known = known

pub known_at : (b : List (List ℕ)) (n : ℕ) → n < length b → is_known b (name_at b n) ≡ true
known_at [] n below = absurd (omega (arith, below))
known_at (y ∷ b) zero below = rw ((bytes_eq-Decides y y).1 refl) refl
known_at (y ∷ b) (suc n) below = or_right (bytes_eq (name_at b n) y) (is_known b (name_at b n)) (known_at b n (omega (arith, below)))

-- the new number is that of a name
pub renumbered_below : (a b : List (List ℕ)) (n : ℕ) → n < length b → renumbered b (with_names a b) n < length (with_names a b)
renumbered_below a b n below = within (with_names a b) (name_at b n) (there a b (name_at b n) (known_at b n below))

-- a name stays at its number once another one has appeared
front-at : (p : Bool) (b : List (List ℕ)) (x : List ℕ) (n : ℕ) → n < length b → name_at (if p then b else (b ++ x ∷ [])) n ≡ name_at b n
front-at true b x n below = refl
front-at false b x n below = get_or_append_left b (x ∷ []) [] n below

-- and so the new number stays
pub same_number : (a b : List (List ℕ)) (x : List ℕ) (n : ℕ) → n < length b
    → renumbered (with_name b x) (with_names a (with_name b x)) n ≡ renumbered b (with_names a b) n
same_number a b x n below =
    ap (λ name. number_of (with_names a (with_name b x)) name) (front-at (is_known b x) b x n below)
    ∙ ap (λ names. number_of names (name_at b n)) (with_more a b x)
    ∙ kept (with_names a b) (name_at b n) x (there a b (name_at b n) (known_at b n below))

-- a name that has just appeared stands at its number
pub below_more : (b : List (List ℕ)) (x : List ℕ) → number_of b x < length (with_name b x)
below_more b x =
    let P : ℕ → Type 0 = λ n. n < length (with_name b x) in
    subst P (again b x) (within (with_name b x) x (given b x))

pub name_there : (b : List (List ℕ)) (x : List ℕ) → name_at (with_name b x) (number_of b x) ≡ x
name_there b x =
    ap (λ n. name_at (with_name b x) n) (sym (again b x))
    ∙ sym (named (with_name b x) x (within (with_name b x) x (given b x)))

pub new_number : (a b : List (List ℕ)) (x : List ℕ) → renumbered (with_name b x) (with_names a (with_name b x)) (number_of b x) ≡ number_of (with_names a b) x
new_number a b x =
    ap (λ name. number_of (with_names a (with_name b x)) name) (name_there b x)
    ∙ ap (λ names. number_of names x) (with_more a b x)
    ∙ again (with_names a b) x

-- names get no fewer
more_names-at : (p : Bool) (b : List (List ℕ)) (x : List ℕ) → length b ≤ length (if p then b else (b ++ x ∷ []))
more_names-at true b x = omega arith
more_names-at false b x = let both = length-append b (x ∷ []) in omega (arith, both)

pub more_names : (b : List (List ℕ)) (x : List ℕ) → length b ≤ length (with_name b x)
more_names b x = more_names-at (is_known b x) b x

pub all_more : (a b : List (List ℕ)) → length a ≤ length (with_names a b)
all_more a [] = omega arith
all_more a (y ∷ b) = let first = more_names a y in let rest = all_more (with_name a y) b in omega (arith, first, rest)

-- A name keeps its number while names are added, and no other name has it.
use Rattle.std.proofs.Common.{◌≡◌, ℕ, ◌+◌, ◌<◌, Bool, true, false, cond, not, ◌||◌, List, [], ◌∷◌, ◌++◌, length, get_or, refl, ap, sym, ◌∙◌, suc, arith}
use Rattle.std.specs.Prelude.{if◌then◌else◌}
use Rattle.std.specs.Str.{bytes_eq}
use Rattle.std.proofs.lemmas.Slice.Eq.{bytes_eq-Decides}
use Rattle.std.proofs.lemmas.List.Folds.{list_any-append}
use Rattle.std.proofs.lemmas.List.Sums.{passes_at_first}
use Rattle.er_trace.specs.Names.{is_known, number_of, with_name}

-- a known name's number is a place among the names
within-at : (b : Bool) (xs : List (List ℕ)) (a : List ℕ) → (is_known xs a ≡ true → number_of xs a < length xs) → (b || is_known xs a) ≡ true → cond (not b) (1 + number_of xs a) 0 < suc (length xs)
within-at true xs a rest known = omega arith
within-at false xs a rest known = let below = rest known in omega arith

pub within : (names : List (List ℕ)) (a : List ℕ) → is_known names a ≡ true → number_of names a < length names
within [] a known = absurd (cc)
within (x ∷ xs) a known = within-at (bytes_eq a x) xs a (within xs a) known

-- the name at that place is this name
pub named : (names : List (List ℕ)) (a : List ℕ) → number_of names a < length names → a ≡ get_or names (number_of names a) []
named names a below = (bytes_eq-Decides a (get_or names (number_of names a) [])).0 (passes_at_first (bytes_eq a) names [] below)

pub alone : (names : List (List ℕ)) (a b : List ℕ) → is_known names a ≡ true → number_of names b ≡ number_of names a → b ≡ a
alone names a b known same =
    let below = within names a known in
    named names b (rw same below) ∙ ap (λ n. get_or names n []) same ∙ sym (named names a below)

-- names that are added come behind
front-at : (b : Bool) (xs more : List (List ℕ)) (a : List ℕ) → (is_known xs a ≡ true → number_of (xs ++ more) a ≡ number_of xs a) → (b || is_known xs a) ≡ true →
    cond (not b) (1 + number_of (xs ++ more) a) 0 ≡ cond (not b) (1 + number_of xs a) 0
front-at true xs more a rest known = refl
front-at false xs more a rest known = ap (λ n. 1 + n) (rest known)

front : (names more : List (List ℕ)) (a : List ℕ) → is_known names a ≡ true → number_of (names ++ more) a ≡ number_of names a
front [] more a known = absurd (cc)
front (x ∷ xs) more a known = front-at (bytes_eq a x) xs more a (front xs more a) known

kept-at : (b : Bool) (names more : List (List ℕ)) (a : List ℕ) → is_known names a ≡ true → number_of (if b then names else (names ++ more)) a ≡ number_of names a
kept-at true names more a known = refl
kept-at false names more a known = front names more a known

pub kept : (names : List (List ℕ)) (a b : List ℕ) → is_known names a ≡ true → number_of (with_name names b) a ≡ number_of names a
kept names a b known = kept-at (is_known names b) names (b ∷ []) a known

still-at : (b : Bool) (names more : List (List ℕ)) (a : List ℕ) → is_known names a ≡ true → is_known (if b then names else (names ++ more)) a ≡ true
still-at true names more a known = known
still-at false names more a known = list_any-append (bytes_eq a) names more ∙ rw known refl

pub still : (names : List (List ℕ)) (a b : List ℕ) → is_known names a ≡ true → is_known (with_name names b) a ≡ true
still names a b known = still-at (is_known names b) names (b ∷ []) a known

-- a new name is the next
itself : (a : List ℕ) → bytes_eq a a ≡ true
itself a = (bytes_eq-Decides a a).1 refl

next-at : (b : Bool) (xs : List (List ℕ)) (a : List ℕ) → number_of (xs ++ a ∷ []) a ≡ number_of xs a → cond (not b) (1 + number_of (xs ++ a ∷ []) a) 0 ≡ cond (not b) (1 + number_of xs a) 0
next-at true xs a rest = refl
next-at false xs a rest = ap (λ n. 1 + n) rest

next : (names : List (List ℕ)) (a : List ℕ) → number_of (names ++ a ∷ []) a ≡ number_of names a
next [] a = rw (itself a) refl
next (x ∷ xs) a = next-at (bytes_eq a x) xs a (next xs a)

again-at : (b : Bool) (names : List (List ℕ)) (a : List ℕ) → number_of (if b then names else (names ++ a ∷ [])) a ≡ number_of names a
again-at true names a = refl
again-at false names a = next names a

pub again : (names : List (List ℕ)) (a : List ℕ) → number_of (with_name names a) a ≡ number_of names a
again names a = again-at (is_known names a) names a

given-at : (b : Bool) (names : List (List ℕ)) (a : List ℕ) → is_known names a ≡ b → is_known (if b then names else (names ++ a ∷ [])) a ≡ true
given-at true names a is = is
given-at false names a is = list_any-append (bytes_eq a) names (a ∷ []) ∙ rw (is, itself a) refl

pub given : (names : List (List ℕ)) (a : List ℕ) → is_known (with_name names a) a ≡ true
given names a = given-at (is_known names a) names a refl

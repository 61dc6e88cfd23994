-- The first of some names, each of which is new where it stands.
use Rattle.std.proofs.Common.{◌≡◌, ℕ, zero, suc, ◌+◌, ◌<◌, ◌≤◌, inl, inr, Bool, true, false, List, [], ◌∷◌, ◌++◌, take, length, length-append, get_or, Result, Ok, Err, OnOk, OnErr, ap, sym, ◌∙◌, subst, arith}
use Rattle.std.specs.Prelude.{if◌then◌else◌}
use Rattle.std.specs.declared.alloc.AllocError.{AllocError}
use Rattle.std.proofs.lemmas.List.{append-nil, append_assoc, get_or-take, length-take, take_all, take_min, take_more_same}
use Rattle.std.proofs.lemmas.List.Elements.{All-from_get_or, recursion_from_All}
use Rattle.er_trace.specs.Names.{NameTable, is_known, with_name}
use Rattle.er_trace.specs.Appended.{AreFirst, BeginAnew, HasAll, with_names}
use Rattle.er_trace.specs.Inner.Recent.{AreDistinct, Knows}
use Rattle.er_trace.proofs.AppendedLemmas.{known_at, with_more}
use Rattle.er_trace.proofs.NumberLemmas.{named, within}
use Rattle.er_trace.proofs.RenumberingLemmas.{adds_nothing}

-- a name more leaves them so
distinct_on : (names new : List (List ℕ)) (x : List ℕ) → new ≡ with_name names x → AreDistinct names → AreDistinct new
distinct_on names new x is once = subst AreDistinct (sym is) (with_more [] names x ∙ ap (λ (all : List (List ℕ)). with_name all x) once)

pub distinct_after : (result : Result ℕ AllocError) (old new : List (List ℕ)) (x : List ℕ) → AreDistinct old → OnOk result (new ≡ with_name old x) → OnErr result (new ≡ old) → AreDistinct new
distinct_after (Ok n) old new x once ok err = distinct_on old new x ok once
distinct_after (Err e) old new x once ok err = subst AreDistinct (sym err) once

-- no more than one name each is added
one_at_most : (p : Bool) (a : List (List ℕ)) (x : List ℕ) → length (if p then a else (a ++ x ∷ [])) ≤ length a + 1
one_at_most true a x = omega arith
one_at_most false a x = let both = length-append a (x ∷ []) in omega (arith, both)

no_more : (a b : List (List ℕ)) → length (with_names a b) ≤ length a + length b
no_more a [] = omega arith
no_more a (y ∷ b) = let one = one_at_most (is_known a y) a y in let rest = no_more (with_name a y) b in omega (arith, one, rest)

-- where all are new, so are the first of them
first-at : (p : Bool) (a b : List (List ℕ)) (y : List ℕ) (n : ℕ) → ((c : List (List ℕ)) → with_names c b ≡ c ++ b → with_names c (take n b) ≡ c ++ take n b)
    → with_names (if p then a else (a ++ y ∷ [])) b ≡ a ++ y ∷ b → with_names (if p then a else (a ++ y ∷ [])) (take n b) ≡ a ++ y ∷ take n b
first-at true a b y n rest is =
    let fewer = no_more a b in
    let more = ap (λ (all : List (List ℕ)). length all) is ∙ length-append a (y ∷ b) in
    absurd (omega (arith, fewer, more))
first-at false a b y n rest is = rest (a ++ y ∷ []) (is ∙ sym (append_assoc a (y ∷ []) b)) ∙ append_assoc a (y ∷ []) (take n b)

first_new : (a b : List (List ℕ)) (n : ℕ) → with_names a b ≡ a ++ b → with_names a (take n b) ≡ a ++ take n b
first_new a b zero is = sym (append-nil a)
first_new a [] (suc n) is = is
first_new a (y ∷ b) (suc n) is = first-at (is_known a y) a b y n (λ c new. first_new c b n new) is

-- the first names, as a loop adds them
pub first_added : (names : List (List ℕ)) (n : ℕ) → AreDistinct names → with_names [] (take n names) ≡ take n names
first_added names n once = first_new [] names n once

pub ends_first : (names first : List (List ℕ)) (n : ℕ) → AreDistinct names → first ≡ with_names [] (take n names) → AreFirst names first
ends_first names first n once is =
    let same : first ≡ take n names = is ∙ first_added names n once in
    let long = ap (λ (all : List (List ℕ)). length all) same ∙ length-take n names in
    same ∙ sym (take_min n names) ∙ ap (λ (m : ℕ). take m names) (sym long)

-- names that are compared one by one
pub same_on : (names first : List (List ℕ)) (i : ℕ) (x : List ℕ) → i < length first → get_or first i [] ≡ x → Knows names x i → take i first ≡ take i names
    → take (i + 1) first ≡ take (i + 1) names
same_on names first i x below is knows so_far =
    let there = within names x knows.known in
    take_more_same first names i [] below (omega (arith, there, knows.is)) so_far
    (is ∙ named names x there ∙ ap (λ (n : ℕ). get_or names n []) knows.is)

pub all_same : (names first : List (List ℕ)) (n : ℕ) → length first ≤ n → n ≤ length first → take n first ≡ take n names → AreFirst names first
all_same names first n low high is =
    let long : n ≡ length first = omega (arith, low, high) in
    sym (take_all n first low) ∙ is ∙ ap (λ (m : ℕ). take m names) long

-- the first of some names add nothing to them
first_known : (names first : List (List ℕ)) → AreFirst names first → with_names names first ≡ names
first_known names first is =
    let P : List ℕ → Type 0 = λ x. is_known names x ≡ true in
    let long = ap (λ (all : List (List ℕ)). length all) is ∙ length-take (length first) names in
    adds_nothing names first (recursion_from_All P first (All-from_get_or P first [] (λ i below.
    subst P (sym (ap (λ (all : List (List ℕ)). get_or all i []) is ∙ get_or-take (length first) names i [] below))
    (known_at names i (omega (arith, below, long))))))

pub has_begun : (others old new : NameTable) → BeginAnew others old new → HasAll others new
has_begun others old new (inl first) =
    ap (λ (t : List (List ℕ)). record { threads = t; locks = with_names others.locks new.locks; sites = with_names others.sites new.sites })
    (first_known others.threads new.threads first.0)
    ∙ ap (λ (l : List (List ℕ)). record { threads = others.threads; locks = l; sites = with_names others.sites new.sites })
    (first_known others.locks new.locks first.1)
    ∙ ap (λ (s : List (List ℕ)). record { threads = others.threads; locks = others.locks; sites = s })
    (first_known others.sites new.sites first.2)
has_begun others old new (inr stays) = subst (λ (names : NameTable). HasAll others names) (sym stays.0) stays.1

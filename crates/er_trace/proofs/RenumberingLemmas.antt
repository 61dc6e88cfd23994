-- A list of new numbers gives the number that stands for each old one.
use Rattle.std.proofs.Common.{◌≡◌, ℕ, zero, suc, ◌+◌, ◌<◌, ◌≤◌, true, List, [], ◌∷◌, ◌++◌, map, take, length, get_or, Some, subst, refl, ap, sym, ◌∙◌, arith}
use Rattle.std.specs.List.{AllByRecursion, slice_get}
use Rattle.std.proofs.lemmas.List.{map-append, take_more}
use Rattle.std.proofs.lemmas.List.Elements.{All-from_get_or, recursion_from_All}
use Rattle.std.proofs.lemmas.Option.{slice_get_within, get_or_from_slice_get}
use Rattle.er_trace.specs.Names.{NameTable, is_known, number_of, with_name}
use Rattle.er_trace.specs.Appended.{HasAll, with_names, with_table, name_at, renumbered, renumbered_site}
use Rattle.er_trace.specs.Inner.Renumbering.{new_site}
use Rattle.er_trace.proofs.NamesLemmas.{with_known}
use Rattle.er_trace.proofs.NumberLemmas.{kept, again}
use Rattle.er_trace.proofs.AppendedLemmas.{still_there, there, known_at, last, with_more, all_more}

mapped_at : (new old : List (List ℕ)) (n : ℕ) → n < length old → get_or (map (number_of new) old) n 0 ≡ number_of new (name_at old n)
mapped_at new [] n below = absurd (omega (arith, below))
mapped_at new (x ∷ old) zero below = refl
mapped_at new (x ∷ old) (suc n) below = mapped_at new old n (omega (arith, below))

pub number_at : (numbers : List ℕ) (old new : List (List ℕ)) (n : ℕ) → numbers ≡ map (number_of new) old → n < length old → get_or numbers n 0 ≡ renumbered old new n
number_at numbers old new n are below = ap (λ (xs : List ℕ). get_or xs n 0) are ∙ mapped_at new old n below

pub site_at : (numbers : List ℕ) (old new : List (List ℕ)) (site : ℕ) → numbers ≡ map (number_of new) old → site ≤ length old → new_site numbers site ≡ renumbered_site old new site
site_at numbers old new zero are below = refl
site_at numbers old new (suc n) are below = ap (λ k. k + 1) (number_at numbers old new n are (omega (arith, below)))

-- one name more
kept_numbers : (names : List (List ℕ)) (x : List ℕ) (b : List (List ℕ)) → AllByRecursion (λ y. is_known names y ≡ true) b → map (number_of (with_name names x)) b ≡ map (number_of names) b
kept_numbers names x [] known = refl
kept_numbers names x (y ∷ b) known =
    ap (λ (n : ℕ). n ∷ map (number_of (with_name names x)) b) (kept names y x known.0) ∙ ap (λ (ns : List ℕ). number_of names y ∷ ns) (kept_numbers names x b known.1)

all_known : (a b : List (List ℕ)) → AllByRecursion (λ y. is_known (with_names a b) y ≡ true) b
all_known a b =
    let P : List ℕ → Type 0 = λ y. is_known (with_names a b) y ≡ true in
    recursion_from_All P b (All-from_get_or P b [] (λ i below. there a b (name_at b i) (known_at b i below)))

-- names that are there add nothing, and still don't once others have appeared
pub adds_nothing : (a b : List (List ℕ)) → AllByRecursion (λ y. is_known a y ≡ true) b → with_names a b ≡ a
adds_nothing a [] known = refl
adds_nothing a (y ∷ b) known = ap (λ (names : List (List ℕ)). with_names names b) (with_known a y known.0) ∙ adds_nothing a b known.1

still_known : (a c b : List (List ℕ)) → AllByRecursion (λ y. is_known a y ≡ true) b → AllByRecursion (λ y. is_known (with_names a c) y ≡ true) b
still_known a c [] known = tt
still_known a c (y ∷ b) known = (still_there a c y known.0, still_known a c b known.1)

still_nothing : (a c b : List (List ℕ)) → with_names a b ≡ a → with_names (with_names a c) b ≡ with_names a c
still_nothing a c b is =
    adds_nothing (with_names a c) b (still_known a c b (subst (λ (names : List (List ℕ)). AllByRecursion (λ y. is_known names y ≡ true) b) is (all_known a b)))

pub still_has_all : (names more kept : NameTable) → HasAll names kept → HasAll (with_table names more) kept
still_has_all names more kept has =
    let all = with_table names more in
    ap (λ (t : List (List ℕ)). record { threads = t; locks = with_names all.locks kept.locks; sites = with_names all.sites kept.sites })
    (still_nothing names.threads more.threads kept.threads (ap (λ (n : NameTable). n.threads) has))
    ∙ ap (λ (l : List (List ℕ)). record { threads = all.threads; locks = l; sites = with_names all.sites kept.sites })
    (still_nothing names.locks more.locks kept.locks (ap (λ (n : NameTable). n.locks) has))
    ∙ ap (λ (s : List (List ℕ)). record { threads = all.threads; locks = all.locks; sites = s })
    (still_nothing names.sites more.sites kept.sites (ap (λ (n : NameTable). n.sites) has))

-- a known name more adds nothing either
pub nothing_on : (names so_far : List (List ℕ)) (x : List ℕ) → is_known names x ≡ true → with_names names so_far ≡ names → with_names names (with_name so_far x) ≡ names
nothing_on names so_far x known same = with_more names so_far x ∙ ap (λ (all : List (List ℕ)). with_name all x) same ∙ with_known names x known

-- a name that stands among names is known
pub known_there : (names : List (List ℕ)) (i : ℕ) (x : List ℕ) → slice_get names i ≡ Some x → is_known names x ≡ true
known_there names i x is =
    subst (λ (y : List ℕ). is_known names y ≡ true) (get_or_from_slice_get names i x [] is) (known_at names i (slice_get_within names i x is))

pub one_more : (a b : List (List ℕ)) (x : List ℕ)
    → map (number_of (with_names a (b ++ x ∷ []))) (b ++ x ∷ []) ≡ map (number_of (with_names a b)) b ++ number_of (with_names a b) x ∷ []
one_more a b x =
    ap (λ (names : List (List ℕ)). map (number_of names) (b ++ x ∷ [])) (last a b x)
    ∙ map-append (number_of (with_name (with_names a b) x)) b (x ∷ [])
    ∙ ap (λ (ns : List ℕ). ns ++ number_of (with_name (with_names a b) x) x ∷ []) (kept_numbers (with_names a b) x b (all_known a b))
    ∙ ap (λ (n : ℕ). map (number_of (with_names a b)) b ++ n ∷ []) (again (with_names a b) x)

-- the first names and one more
pub taken : (b : List (List ℕ)) (i : ℕ) (x : List ℕ) → slice_get b i ≡ Some x → take (i + 1) b ≡ take i b ++ x ∷ []
taken b i x is = take_more b i [] (slice_get_within b i x is) ∙ ap (λ (y : List ℕ). take i b ++ y ∷ []) (get_or_from_slice_get b i x [] is)

-- a turn of the loop that numbers them
module _ (a others mid new : List (List ℕ)) (i : ℕ) (x : List ℕ) (is : slice_get others i ≡ Some x) (so_far : mid ≡ with_names a (take i others)) (ok : new ≡ with_name mid x) where
  pub names_on : new ≡ with_names a (take (i + 1) others)
  names_on =
      ok ∙ ap (λ (names : List (List ℕ)). with_name names x) so_far ∙ sym (last a (take i others) x)
      ∙ ap (λ (names : List (List ℕ)). with_names a names) (sym (taken others i x is))

  pub numbers_on : (ns ms : List ℕ) (n : ℕ) → ns ≡ map (number_of mid) (take i others) → n ≡ number_of mid x → ms ≡ ns ++ n ∷ [] → ms ≡ map (number_of new) (take (i + 1) others)
  numbers_on ns ms n before number put =
      put
      ∙ ap (λ (k : ℕ). ns ++ k ∷ []) number
      ∙ ap (λ (ks : List ℕ). ks ++ number_of mid x ∷ []) before
      ∙ ap (λ (names : List (List ℕ)). map (number_of names) (take i others) ++ number_of names x ∷ []) so_far
      ∙ sym (one_more a (take i others) x)
      ∙ ap (λ (names : List (List ℕ)). map (number_of (with_names a names)) names) (sym (taken others i x is))
      ∙ ap (λ (names : List (List ℕ)). map (number_of names) (take (i + 1) others)) (sym names_on)

pub no_fewer : (a b names : List (List ℕ)) → names ≡ with_names a b → length a ≤ length names
no_fewer a b names is = rw is (all_more a b)

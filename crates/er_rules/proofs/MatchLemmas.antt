-- The first rule that takes a race, while rules are added one by one.
use Rattle.std.proofs.Common.{◌≡◌, ◌∙◌, ◌≤◌, ◌+◌, ℕ, suc, min, Bool, true, false, not, ◌&&◌, ◌||◌, cond, option_map, nat_eq, nat_lt, List, [], ◌∷◌, ◌++◌, map, length, position, Option, Some, None, refl, sym, subst, ap, ap₂, arith}
use Rattle.std.specs.List.{list_any, position_or_len}
use Rattle.std.specs.Option.{option_or}
use Rattle.std.proofs.lemmas.List.{length_push, map_push, length-map}
use Rattle.std.proofs.lemmas.List.Folds.{position_or_len_push}
use Rattle.std.proofs.lemmas.List.Sums.{prefix_len-le-length}
use borrow.Author.Tests.{eqb-true, eqb-false, lt-ltb, le-ltb}
use Rattle.er_rules.specs.declared.rules.Rule.{Rule}
use Rattle.std.proofs.lemmas.Bool.Decides.{nat_tests}
use Rattle.std.specs.Str.{bytes_eq}
use Rattle.er_rules.specs.Targets.{Target, AtSite, AtSites, AtWords, AtFact, ask_facts, asks_facts, target_of, same_site, takes_name, is_among, takes, takes_reuse, matching_rule, matching_reuse_rule}
use Rattle.er_rules.specs.Patterns.{pattern_takes}
use Rattle.er_rules.specs.Inner.Index.{least_of, is_of_pattern, is_of_site, is_of_words}

one_more : (n l : ℕ) (passes same : Bool) → n ≤ l → nat_eq n l ≡ same
    → cond (nat_lt (cond same (l + cond passes 0 1) n) (l + 1)) (Some (cond same (l + cond passes 0 1) n)) None ≡ option_or (cond (nat_lt n l) (Some n) None) (cond passes (Some l) None)
one_more n l true true within is =
    let end : n ≡ l = eqb-true n l is in
    ap (λ b. cond b (Some (l + 0)) None) (lt-ltb (l + 0) (l + 1) (omega arith)) ∙ (ap Some (omega arith) ∙ sym (ap (λ b. option_or (cond b (Some n) None) (Some l)) (le-ltb n l (omega arith))))
one_more n l false true within is =
    let end : n ≡ l = eqb-true n l is in
    ap (λ b. cond b (Some (l + 1)) None) (le-ltb (l + 1) (l + 1) (omega arith)) ∙ sym (ap (λ b. option_or (cond b (Some n) None) None) (le-ltb n l (omega arith)))
one_more n l passes false within is =
    let apart : n ≡ l → ⊥ = eqb-false n l is in
    ap (λ b. cond b (Some n) None) (lt-ltb n (l + 1) (omega arith)) ∙ sym (ap (λ b. option_or (cond b (Some n) None) (cond passes (Some l) None)) (lt-ltb n l (omega arith)))

position-push : {X : Type 0} (p : X → Bool) (xs : List X) (y : X) → position p (xs ++ y ∷ []) ≡ option_or (position p xs) (cond (p y) (Some (length xs)) None)
position-push p xs y =
    (λ k. cond (nat_lt (position_or_len_push p xs y k) (length_push xs y k)) (Some (position_or_len_push p xs y k)) None)
    ∙ one_more (position_or_len p xs) (length xs) (p y) (nat_eq (position_or_len p xs) (length xs)) (prefix_len-le-length _ xs) refl

pub position-pushed : (p : Target → Bool) (rules : List Rule) (rule : Rule) → position p (map target_of (rules ++ rule ∷ [])) ≡ option_or (position p (map target_of rules)) (cond (p (target_of rule)) (Some (length rules)) None)
position-pushed p rules rule =
    ap (λ ts. position p ts) (map_push target_of rules rule) ∙ (position-push p (map target_of rules) (target_of rule)
    ∙ ap (λ n. option_or (position p (map target_of rules)) (cond (p (target_of rule)) (Some n) None)) (length-map rules target_of))

abbrev pub later : Option ℕ → Option ℕ
later o = option_map (λ n. 1 + n) o

later-cond : (t : Bool) (i : ℕ) → cond t (Some (1 + i)) None ≡ later (cond t (Some i) None)
later-cond true i = refl
later-cond false i = refl

step : (b : Bool) (i l : ℕ) → cond (nat_lt (cond (not b) (1 + i) 0) (suc l)) (Some (cond (not b) (1 + i) 0)) None ≡ cond b (Some 0) (later (cond (nat_lt i l) (Some i) None))
step true i l = ap (λ t. cond t (Some 0) None) (lt-ltb 0 (suc l) (omega arith))
step false i l = let same : nat_lt (1 + i) (suc l) ≡ nat_lt i l = grind (arith, nat_tests) in ap (λ t. cond t (Some (1 + i)) None) same ∙ later-cond (nat_lt i l) i

pub position-cons : {X : Type 0} (p : X → Bool) (x : X) (xs : List X) → position p (x ∷ xs) ≡ cond (p x) (Some 0) (later (position p xs))
position-cons p x xs = step (p x) (position_or_len p xs) (length xs)

either : (a b : Bool) (m n : Option ℕ) → cond (a || b) (Some 0) (later (least_of m n)) ≡ least_of (cond a (Some 0) (later m)) (cond b (Some 0) (later n))
either true true m n = refl
either true false m None = refl
either true false m (Some n) = let low : 0 ≡ min 0 (1 + n) = omega arith in ap Some low
either false true None n = refl
either false true (Some m) n = let low : 0 ≡ min (1 + m) 0 = omega arith in ap Some low
either false false None n = refl
either false false (Some m) None = refl
either false false (Some m) (Some n) = let both : 1 + min m n ≡ min (1 + m) (1 + n) = omega arith in ap Some both

-- the first that has one of two properties is the lesser of the first that has one and the first that has the other
position-or : {X : Type 0} (p q : X → Bool) (xs : List X) → position (λ x. p x || q x) xs ≡ least_of (position p xs) (position q xs)
position-or p q [] = refl
position-or p q (x ∷ xs) =
    position-cons (λ y. p y || q y) x xs ∙ (ap (λ o. cond (p x || q x) (Some 0) (later o)) (position-or p q xs)
    ∙ (either (p x) (q x) (position p xs) (position q xs) ∙ sym (ap₂ least_of (position-cons p x xs) (position-cons q x xs))))

or-false : (b : Bool) → b ≡ (b || false)
or-false true = refl
or-false false = refl

and-same : (b : Bool) → b ≡ (b && b)
and-same true = refl
and-same false = refl

takes_is : (t : Target) (site : Option (List ℕ)) (word : ℕ) → takes t site word ≡ ((is_of_site t site || is_of_pattern t site) || is_of_words t word word)
takes_is (AtSite name) site word = or-false (same_site name site) ∙ or-false (same_site name site || false)
takes_is (AtSites pattern) site word = or-false (takes_name pattern site)
takes_is (AtWords words) site word = and-same (is_among words word)
takes_is (AtFact kind pattern) site word = refl

reuse_is : (t : Target) (site : List ℕ) (lo hi : ℕ) → takes_reuse t (Some site) lo hi ≡ ((is_of_site t (Some site) || is_of_pattern t (Some site)) || is_of_words t lo hi)
reuse_is (AtSite None) site lo hi = refl
reuse_is (AtSite (Some name)) site lo hi = or-false (bytes_eq name site) ∙ or-false (bytes_eq name site || false)
reuse_is (AtSites pattern) site lo hi = or-false (pattern_takes pattern site)
reuse_is (AtWords words) site lo hi = refl
reuse_is (AtFact kind pattern) site lo hi = refl

abbrev pub first_by_site : List Target → Option (List ℕ) → Option ℕ
first_by_site targets site = position (λ target. is_of_site target site) targets

abbrev pub first_by_words : List Target → ℕ → ℕ → Option ℕ
first_by_words targets lo hi = position (λ target. is_of_words target lo hi) targets

abbrev pub first_by_pattern : List Target → Option (List ℕ) → Option ℕ
first_by_pattern targets site = position (λ target. is_of_pattern target site) targets

-- the first rule of a site, of a pattern that takes its name, or of words
abbrev pub first_by_any : List Target → Option (List ℕ) → ℕ → ℕ → Option ℕ
first_by_any targets site lo hi = least_of (least_of (first_by_site targets site) (first_by_pattern targets site)) (first_by_words targets lo hi)

any_is : (targets : List Target) (site : Option (List ℕ)) (lo hi : ℕ) → position (λ t. (is_of_site t site || is_of_pattern t site) || is_of_words t lo hi) targets ≡ first_by_any targets site lo hi
any_is targets site lo hi =
    position-or (λ t. is_of_site t site || is_of_pattern t site) (λ t. is_of_words t lo hi) targets
    ∙ ap (λ o. least_of o (first_by_words targets lo hi)) (position-or (λ t. is_of_site t site) (λ t. is_of_pattern t site) targets)

-- the first rule that takes a race, by the first of each sort
pub matching_is : (targets : List Target) (site : Option (List ℕ)) (word : ℕ) → first_by_any targets site word word ≡ matching_rule targets site word
matching_is targets site word = sym ((λ k. position (λ t. takes_is t site word k) targets) ∙ any_is targets site word word)

matching_reuse_is : (targets : List Target) (site : List ℕ) (lo hi : ℕ) → first_by_any targets (Some site) lo hi ≡ matching_reuse_rule targets (Some site) lo hi
matching_reuse_is targets site lo hi = sym ((λ k. position (λ t. reuse_is t site lo hi k) targets) ∙ any_is targets (Some site) lo hi)

pub matching_reuse_at : (targets : List Target) (site : Option (List ℕ)) (name : List ℕ) (lo hi : ℕ) → site ≡ Some name → first_by_any targets site lo hi ≡ matching_reuse_rule targets site lo hi
matching_reuse_at targets site name lo hi is =
    subst (λ (s : Option (List ℕ)). first_by_any targets s lo hi ≡ matching_reuse_rule targets s lo hi) (sym is) (matching_reuse_is targets name lo hi)

pub asking_is : (rules : List Rule) → list_any (λ rule. asks_facts (target_of rule)) rules ≡ ask_facts (map target_of rules)
asking_is [] = refl
asking_is (rule ∷ rules) = ap (λ b. asks_facts (target_of rule) || b) (asking_is rules)

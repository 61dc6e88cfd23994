-- What a store finds, by the references or the sets that it has, and what that says of the numbers of its owner.
use Rattle.std.proofs.Common.{◌≡◌, ◌≢◌, ◌∙◌, ℕ, zero, suc, ◌+◌, ◌<◌, add-one, true≢false, ◌||◌, List, [], ◌∷◌, ◌++◌, map, length, get_or, Option, Some, None, is_some, IfSome, IfNone, Contains, position, if◌then◌else◌, refl, sym, ap, subst, arith}
use Rattle.std.specs.Cmp.Lexicographic.{bytes_decides}
use Rattle.std.specs.List.{list_any}
use Rattle.std.proofs.lemmas.List.{map-append, get_or-map}
use Rattle.std.proofs.lemmas.List.Elements.{Contains-get_or}
use Rattle.std.proofs.lemmas.List.Quantifiers.{position-Some}
use Rattle.indexmap.specs.IndexSet.{insert_key}
use Rattle.er_event.specs.Lockset.{same_locks}
use Rattle.er_table.specs.Sets.{set_at, AreDistinct}
use Rattle.er_table.specs.Numbers.{numbered}
use Rattle.er_table.proofs.SetsLemmas.{list_any-Decides, list_any-absent, zero_from_empty}

-- a look-up among keys that stand for sets
module _ {X : Type 0} (see : X → List ℕ) (x : X) (keys : List X) where
  list_any-seen : (zs : List X) → list_any (λ z. same_locks (see x) (see z)) zs ≡ list_any (same_locks (see x)) (map see zs)
  list_any-seen [] = refl
  list_any-seen (z ∷ zs) = ap (λ b. same_locks (see x) (see z) || b) (list_any-seen zs)

  -- what it finds is the set
  pub found_among : (r : Option ℕ) → r ≡ position (λ z. same_locks (see x) (see z)) keys → IfSome r (λ i. set_at (map see keys) i ≡ see x)
  found_among (Some i) at =
      let found = position-Some (λ z. same_locks (see x) (see z)) keys i x (sym at) in
      get_or-map see keys i x [] found.0 ∙ sym ((bytes_decides (see x) (see (get_or keys i x))).0 found.1)
  found_among None at = tt

  -- and if it finds nothing, the set isn't there
  pub absent_among : (r : Option ℕ) → is_some r ≡ list_any (λ z. same_locks (see x) (see z)) keys → IfNone r (¬ Contains (map see keys) (see x))
  absent_among (Some i) is = tt
  absent_among None is = λ there. true≢false (sym ((list_any-Decides (map see keys) (see x)).1 there) ∙ (sym (list_any-seen keys) ∙ sym is))

  -- one more key, whose set isn't there yet
  pub added_among : (now : List X) (sets : List (List ℕ)) (set : List ℕ) → map see keys ≡ sets → see x ≡ set → ¬ Contains sets set
      → now ≡ insert_key (λ y z. same_locks (see y) (see z)) keys x → map see now ≡ sets ++ set ∷ []
  added_among now sets set old is absent inserted =
      let none = list_any-seen keys ∙ list_any-absent (map see keys) (see x) (λ there. absent (subst (λ s. Contains s set) old (subst (Contains (map see keys)) is there))) in
      ap (map see) (inserted ∙ ap (λ b. if b then keys else keys ++ x ∷ []) none)
      ∙ (map-append see keys (x ∷ []) ∙ (λ i. old i ++ is i ∷ []))

-- the numbers of the sets of a store
module _ (others : List (List ℕ)) (sets : List (List ℕ)) (is : numbered others ≡ sets) where
  -- the empty set is number 0, so a set without a number has locks
  pub some_from_absent : (set : List ℕ) → ¬ Contains sets set → set ≢ []
  some_from_absent set absent none =
      let zero : Contains (numbered others) [] = (0, omega arith, refl) in
      absent (subst (Contains sets) (sym none) (subst (λ s. Contains s []) is zero))

  -- a set with locks that is not among the others has no number
  pub absent_from_others : (set : List ℕ) → set ≢ [] → ¬ Contains others set → ¬ Contains sets set
  absent_from_others set some none there = by (subst (λ s. Contains s set) (sym is) there)
    where
      by : Contains (numbered others) set → ⊥
      by (zero, within, here) = some (sym here)
      by (suc n, within, here) = none (n, omega (arith, within), here)

  -- and one without a number is not among them
  pub others_absent : (set : List ℕ) → ¬ Contains sets set → ¬ Contains others set
  others_absent set absent (n, within, here) =
      let there : Contains (numbered others) set = (suc n, omega (arith, within), here) in
      absent (subst (λ s. Contains s set) is there)

  -- the number of a set that is among them
  pub within-found : (place : ℕ) → place < length others → place + 1 < length sets
  within-found place within = subst (λ s. place + 1 < length s) is (omega (arith, within))

  pub set_at-found : (place : ℕ) (set : List ℕ) → set_at others place ≡ set → set_at sets (place + 1) ≡ set
  set_at-found place set here = subst (λ s. set_at s (place + 1) ≡ set) is (rw add-one here)

  pub present_from_others : (place : ℕ) (set : List ℕ) → place < length others → set_at others place ≡ set → Contains sets set
  present_from_others place set within here =
      subst (Contains sets) (set_at-found place set here) (Contains-get_or sets (place + 1) [] (within-found place within))

  -- the empty set is number 0, and no other
  pub empty_is_first : set_at sets 0 ≡ []
  empty_is_first = ap (λ s. set_at s 0) (sym is)

  pub zero_from_none : AreDistinct (numbered others) → (n : ℕ) → n < length sets → set_at sets n ≡ [] → n ≡ 0
  zero_from_none distinct n within none = zero_from_empty sets n (subst AreDistinct is distinct) empty_is_first within none

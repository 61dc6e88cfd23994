-- What is known of a word that was touched in part stands beside its place in a list, and of the others it is what is stored of them.
use Rattle.std.proofs.Common.{◌≡◌, ◌∙◌, ℕ, zero, suc, ◌<◌, ◌≤◌, ◌&&◌, ◌||◌, nat_eq, nat_le, nat_lt, Bool, true, false, cond, List, [], ◌∷◌, ◌++◌, filter, get_or, is_some, length, position, slice_set, Option, Some, None, refl, sym, ap, arith}
use Rattle.std.proofs.lemmas.Bool.Decides.{nat_tests}
use Rattle.std.proofs.lemmas.List.Quantifiers.{position-Some}
use Rattle.std.proofs.lemmas.List.Sums.{fails_before_first}
use Rattle.std.proofs.lemmas.Map.Entries.{lookup-filter-keys}
use Rattle.std.specs.List.{position_or_len}
use borrow.Author.Tests.{eqb-true}
use Rattle.std.specs.Map.{lookup}
use Rattle.std.specs.Option.{unwrap_or}
use Rattle.er_event.specs.declared.steps.Kind.{Kind}
use Rattle.er_event.specs.declared.steps.Kind.TheVariants.{Write}
use Rattle.er_order.specs.ByBytes.{whole}
use Rattle.er_epochs.specs.Epochs.{Stored, tag_found}
use Rattle.er_epochs.specs.Known.{Known, finds, known_of, query_of, reuse_query}
use Rattle.er_epochs.specs.Words.{BlockWords, WordLists, known_beside, slot_at, stored_beside, word_at}
use Rattle.er_epochs.proofs.KnownLemmas.{found-whole}
use Rattle.er_epochs.proofs.Maps.{Puts}

past_all : (place many : ℕ) (b : Bool) → nat_lt place many ≡ b → cond b (Some place) None ≡ None → many ≤ place
past_all place many true e none = cc
past_all place many false e none = grind (arith, nat_tests, e)

-- a list by the numbers in front
module _ {V : Type 0} where
  -- what stands where the search for a number ends
  first_there : (es : List (ℕ × V)) (i p : ℕ) (e : ℕ × V) → i < length es → nat_eq p (get_or es i e).0 ≡ true → ((k : ℕ) → k < i → nat_eq p (get_or es k e).0 ≡ false)
      → lookup (nat_eq p) es ≡ Some (get_or es i e).1
  first_there [] i p e within here before = absurd (omega (arith, within))
  first_there (x ∷ es) zero p e within here before = ap (λ b. cond b (Some x.1) (lookup (nat_eq p) es)) here
  first_there (x ∷ es) (suc i) p e within here before =
      ap (λ b. cond b (Some x.1) (lookup (nat_eq p) es)) (before 0 (omega arith))
      ∙ first_there es i p e (omega (arith, within)) here (λ k below. before (suc k) (omega (arith, below)))

  first_put : (es : List (ℕ × V)) (i p : ℕ) (e : ℕ × V) (v : V) → i < length es → nat_eq p (get_or es i e).0 ≡ true → ((k : ℕ) → k < i → nat_eq p (get_or es k e).0 ≡ false)
      → Puts es (slice_set es i ((get_or es i e).0, v)) p v
  first_put [] i p e v within here before q = absurd (omega (arith, within))
  first_put (x ∷ es) zero p e v within here before q =
      let at : p ≡ x.0 = eqb-true p x.0 here in
      ap (λ n. cond (nat_eq q n) (Some v) (lookup (nat_eq q) es)) (sym at) ∙ by (nat_eq p q) refl at
    where
      by : (b : Bool) → nat_eq p q ≡ b → p ≡ x.0 → cond (nat_eq q p) (Some v) (lookup (nat_eq q) es) ≡ cond b (Some v) (cond (nat_eq q x.0) (Some x.1) (lookup (nat_eq q) es))
      by true same at = ap (λ b. cond b (Some v) (lookup (nat_eq q) es)) turned
        where
          turned : nat_eq q p ≡ true
          turned = grind (arith, nat_tests, same)
      by false apart at = ap (λ b. cond b (Some v) (lookup (nat_eq q) es)) turned ∙ sym (ap (λ b. cond b (Some x.1) (lookup (nat_eq q) es)) (ap (nat_eq q) (sym at) ∙ turned))
        where
          turned : nat_eq q p ≡ false
          turned = grind (arith, nat_tests, apart)
  first_put (x ∷ es) (suc i) p e v within here before q =
      ap (λ o. cond (nat_eq q x.0) (Some x.1) o) (first_put es i p e v (omega (arith, within)) here (λ k below. before (suc k) (omega (arith, below))) q)
      ∙ by (nat_eq q x.0) (nat_eq p q) refl refl
    where
      by : (b c : Bool) → nat_eq q x.0 ≡ b → nat_eq p q ≡ c
          → cond b (Some x.1) (cond c (Some v) (lookup (nat_eq q) es)) ≡ cond c (Some v) (cond b (Some x.1) (lookup (nat_eq q) es))
      by true true one two = absurd (clash (before 0 (omega arith)))
        where
          clash : nat_eq p x.0 ≡ false → ⊥
          clash apart = grind (arith, nat_tests, one, two, apart)
      by true false one two = refl
      by false true one two = refl
      by false false one two = refl

  module _ (es : List (ℕ × V)) (p i : ℕ) (e : ℕ × V) (found : position (λ (entry : ℕ × V). nat_eq p entry.0) es ≡ Some i) where
    abbrev there : (i < length es) × (nat_eq p (get_or es i e).0 ≡ true) × ((k : ℕ) → k < i → nat_eq p (get_or es k e).0 ≡ false)
    there = position-Some (λ (entry : ℕ × V). nat_eq p entry.0) es i e found

    pub split-there : lookup (nat_eq p) es ≡ Some (get_or es i e).1
    split-there = first_there es i p e there.0 there.1 there.2

    pub split-put : (v : V) → Puts es (slice_set es i ((get_or es i e).0, v)) p v
    split-put v = first_put es i p e v there.0 there.1 there.2

  -- or it ends without one
  unseen : (es : List (ℕ × V)) (p : ℕ) → ((k : ℕ) (d : ℕ × V) → k < length es → nat_eq p (get_or es k d).0 ≡ false) → lookup (nat_eq p) es ≡ None
  unseen [] p all = refl
  unseen (x ∷ es) p all = ap (λ b. cond b (Some x.1) (lookup (nat_eq p) es)) (all 0 x (omega arith)) ∙ unseen es p (λ k d below. all (suc k) d (omega (arith, below)))

  pub split-none : (es : List (ℕ × V)) (p : ℕ) → position (λ (entry : ℕ × V). nat_eq p entry.0) es ≡ None → lookup (nat_eq p) es ≡ None
  split-none es p none =
      let past = past_all (position_or_len (λ (entry : ℕ × V). nat_eq p entry.0) es) (length es) (nat_lt (position_or_len (λ (entry : ℕ × V). nat_eq p entry.0) es) (length es)) refl none in
      unseen es p (λ k d below. fails_before_first (λ (entry : ℕ × V). nat_eq p entry.0) es k d (omega (arith, below, past)))

  -- one more behind the others
  behind_first : (p q : ℕ) (x : ℕ × V) (v : V) (rest more : Option V) (b c : Bool) → nat_eq q x.0 ≡ b → nat_eq p q ≡ c → nat_eq p x.0 ≡ false → more ≡ cond (nat_eq p q) (Some v) rest
      → cond b (Some x.1) more ≡ cond c (Some v) (cond b (Some x.1) rest)
  behind_first p q x v rest more true true one two apart is = absurd (clash one two apart)
    where
      clash : nat_eq q x.0 ≡ true → nat_eq p q ≡ true → nat_eq p x.0 ≡ false → ⊥
      clash one two apart = grind (arith, nat_tests, one, two, apart)
  behind_first p q x v rest more true false one two apart is = refl
  behind_first p q x v rest more false c one two apart is = is ∙ ap (λ b. cond b (Some v) rest) two

  not_first : (b : Bool) (x o : Option V) → is_some x ≡ true → cond b x o ≡ None → (b ≡ false) × (o ≡ None)
  not_first true (Some x) o some none = cc
  not_first true None o some none = cc
  not_first false x o some none = (refl, none)

  pub split-pushed : (es : List (ℕ × V)) (p : ℕ) (v : V) → lookup (nat_eq p) es ≡ None → Puts es (es ++ (p, v) ∷ []) p v
  split-pushed [] p v none q = ap (λ b. cond b (Some v) None) turned
    where
      turned : nat_eq q p ≡ nat_eq p q
      turned = grind (arith, nat_tests)
  split-pushed (x ∷ es) p v none q =
      let parts = not_first (nat_eq p x.0) (Some x.1) (lookup (nat_eq p) es) refl none in
      behind_first p q x v (lookup (nat_eq q) es) (lookup (nat_eq q) (es ++ (p, v) ∷ [])) (nat_eq q x.0) (nat_eq p q) refl refl parts.0 (split-pushed es p v parts.1 q)

  -- the numbers of a range are gone
  left_if : (lo hi i : ℕ) (b : Bool) → (nat_le lo i && nat_le i hi) ≡ b → (o : Option V) → cond (nat_lt i lo || nat_lt hi i) o None ≡ cond b None o
  left_if lo hi i true within o = ap (λ b. cond b o None) none
    where
      none : (nat_lt i lo || nat_lt hi i) ≡ false
      none = grind (arith, nat_tests, within)
  left_if lo hi i false apart o = ap (λ b. cond b o None) some
    where
      some : (nat_lt i lo || nat_lt hi i) ≡ true
      some = grind (arith, nat_tests, apart)

  pub split-left : (es : List (ℕ × V)) (lo hi i : ℕ) → lookup (nat_eq i) (filter (λ (e : ℕ × V). nat_lt e.0 lo || nat_lt hi e.0) es) ≡ cond (nat_le lo i && nat_le i hi) None (lookup (nat_eq i) es)
  split-left es lo hi i =
      lookup-filter-keys (nat_eq i) (λ k. nat_lt k lo || nat_lt hi k) (nat_lt i lo || nat_lt hi i) (λ k e. ap (λ n. nat_lt n lo || nat_lt hi n) (sym (eqb-true i k e))) es
      ∙ left_if lo hi i (nat_le lo i && nat_le i hi) refl (lookup (nat_eq i) es)

-- what is known of a word in its block
module _ {A : Type 0} (lists : WordLists A) (n place : ℕ) where
  pub slot-whole : (block : BlockWords A) → lookup (nat_eq place) block.split ≡ None → known_beside lists n (slot_at block place) ≡ known_of (stored_beside lists n (word_at block.words place))
  slot-whole block none = ap (λ o. unwrap_or o (known_of (stored_beside lists n (word_at block.words place)))) none

  pub slot-found : (block : BlockWords A) (k : Known A) → lookup (nat_eq place) block.split ≡ Some k → known_beside lists n (slot_at block place) ≡ k
  slot-found block k found = ap (λ o. unwrap_or o (known_of (stored_beside lists n (word_at block.words place)))) found

  pub slot-put : (old new : BlockWords A) (k : Known A) → Puts old.split new.split place k → known_beside lists n (slot_at new place) ≡ k
  slot-put old new k puts = slot-found new k (puts place ∙ ap (λ b. cond b (Some k) (lookup (nat_eq place) old.split)) here)
    where
      here : nat_eq place place ≡ true
      here = grind (arith, nat_tests)

pub slots-stay : {A : Type 0} (old new : BlockWords A) (place : ℕ) (k : Known A) → Puts old.split new.split place k → new.words ≡ old.words → (i : ℕ) → nat_eq place i ≡ false → slot_at new i ≡ slot_at old i
slots-stay old new place k puts same i apart = λ j. record {
  word = word_at (same j) i;
  split = (puts i ∙ ap (λ b. cond b (Some k) (lookup (nat_eq i) old.split)) apart) j;
}

-- a word of which all accesses touched the whole
module _ {A : Type 0} (clock : ℕ → ℕ) where
  pub whole-found : (stored : Stored A) (kind : Kind) → tag_found clock stored kind ≡ finds clock (known_of stored) (query_of kind whole)
  whole-found stored kind = sym (found-whole clock (query_of kind whole) stored kind refl refl)

  pub whole-used : (stored : Stored A) → tag_found clock stored Write ≡ finds clock (known_of stored) reuse_query
  whole-used stored = sym (found-whole clock reuse_query stored Write refl refl)

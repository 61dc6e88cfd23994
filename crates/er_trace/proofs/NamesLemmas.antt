-- Facts on names that are numbered by first appearance, and on the texts that hold them.
use Rattle.std.proofs.Common.{String, not, ◌≡◌, ℕ, ◌+◌, Bool, true, false, cond, ◌||◌, List, [], ◌∷◌, ◌++◌, map, Option, Some, None, IfSome, IfNone, is_some, refl, sym, ap, ◌∙◌}
use Rattle.std.specs.List.{list_any, position_or_len}
use Rattle.std.specs.Str.{bytes_eq}
use Rattle.std.specs.String.{string_bytes, string_eq}
use Rattle.std.proofs.lemmas.List.{map-append}
use Rattle.indexmap.specs.IndexSet.{insert_key}
use Rattle.er_trace.specs.Names.{is_known, number_of, with_name}

module _ {Y : Type 0} (name : List ℕ) where
  -- a text is found as its bytes are
  pub known_at : (keys : List (String Y)) → list_any (λ k. bytes_eq name (string_bytes k)) keys ≡ is_known (map string_bytes keys) name
  known_at [] = refl
  known_at (k ∷ keys) = ap (λ b. bytes_eq name (string_bytes k) || b) (known_at keys)

  pub number_at : (keys : List (String Y)) → position_or_len (λ k. bytes_eq name (string_bytes k)) keys ≡ number_of (map string_bytes keys) name
  number_at [] = refl
  number_at (k ∷ keys) = ap (λ n. cond (not (bytes_eq name (string_bytes k))) (1 + n) 0) (number_at keys)

-- what `position` answers at the place that it finds
pub found_place : (b : Bool) (m n : ℕ) → Some n ≡ cond b (Some m) None → n ≡ m
found_place true m n e = cc
found_place false m n e = cc

-- the same of an answer that may be none
pub found_at : (r : Option ℕ) (b known : Bool) (m n : ℕ) → r ≡ cond b (Some m) None → m ≡ n → is_some r ≡ known → IfSome r (λ k. (k ≡ n) × (known ≡ true))
found_at (Some k) b known m n e same found = (found_place b m k e ∙ same, sym found)
found_at None b known m n e same found = tt

pub found_none : (r : Option ℕ) (b : Bool) → is_some r ≡ b → IfNone r (b ≡ false)
found_none (Some n) b found = tt
found_none None b found = sym found

-- a name that is known leaves the names as they are
pub with_known : (names : List (List ℕ)) (name : List ℕ) → is_known names name ≡ true → with_name names name ≡ names
with_known names name known = rw known

pub with_new : (names : List (List ℕ)) (name : List ℕ) → is_known names name ≡ false → with_name names name ≡ names ++ name ∷ []
with_new names name new = rw new

-- a text that is put in adds its bytes
pub bytes-insert_key : {Y : Type 0} (keys : List (String Y)) (k : String Y) → list_any (λ x. bytes_eq (string_bytes k) (string_bytes x)) keys ≡ false
    → map string_bytes (insert_key string_eq keys k) ≡ with_name (map string_bytes keys) (string_bytes k)
bytes-insert_key keys k none =
    rw none (map-append string_bytes keys (k ∷ []))
    ∙ sym (with_new (map string_bytes keys) (string_bytes k) (sym (known_at (string_bytes k) keys) ∙ none))

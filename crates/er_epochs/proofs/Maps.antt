-- Entries of a map: where a new one stands, and what the map is once a key has a value.
use Rattle.std.proofs.Common.{◌≡◌, ℕ, nat_eq, cond, List, [], ◌∷◌, ◌++◌, length, slice_get, Some, refl}
use Rattle.std.specs.Map.{lookup, keys_of}

module _ {V : Type 0} where
  -- a new entry's key stands last
  pub last_key : (es : List (ℕ × V)) (n : ℕ) (v : V) → slice_get (keys_of (es ++ (n, v) ∷ [])) (length es) ≡ Some n
  last_key [] n v = refl
  last_key (e ∷ es) n v = last_key es n v

  -- a map with this value at the key
  abbrev pub Puts : List (ℕ × V) → List (ℕ × V) → ℕ → V → Type 0
  Puts old new p v = (q : ℕ) → lookup (nat_eq q) new ≡ cond (nat_eq p q) (Some v) (lookup (nat_eq q) old)

-- How an owner's own sets lie in memory, one behind the other, and how each is found.
use Rattle.std.specs.Prelude.{◌≡◌, ℕ, ◌-◌, ◌<◌, ◌≤◌, ◌/◌, ◌^◌, List, map, length, Option, slice_range, slice_index, slice_index_or, fold}
use Rattle.std.specs.Option.{unwrap_or}
use Rattle.std.specs.List.Sorted.{IsStrictlyIncreasing}
use Rattle.er_event.specs.Lockset.{hashed}
use Rattle.er_keys.specs.Mixing.{written}
use Rattle.er_keys.specs.declared.number_hasher.NumberHasher.{NumberHasher}
use Rattle.er_table.specs.Sets.{set_at}
use Rattle.er_table.specs.declared.store.Span.{Span}

-- what contracts see: the sets, how many there may be, and what hashes them
pub record OwnSets : Type 0 where
  pub sets : List (List ℕ)
  pub limit : ℕ
  pub hasher : NumberHasher

-- what a set is hashed to
unfoldable pub hash_by : NumberHasher → List ℕ → ℕ
hash_by hasher set = (fold written hasher (hashed set)).mixed / 2 ^ 32

-- the sets that lie in these spans of the locks
abbrev pub cut : List ℕ → List Span → List (List ℕ)
cut locks spans = map (λ s. slice_range locks s.start s.end) spans

-- Each of `count` places has a key. Those of a key are found from the newest one, by going from each to the next older one. `newest` and `older`
-- are one more than a place, or 0 where there is none.
pub record AreChained (count : ℕ) (key older newest : ℕ → ℕ) : Type 0 where
  pub newest_within : (h : ℕ) → newest h ≤ count
  pub newest_key : (h : ℕ) → 0 < newest h → key (newest h - 1) ≡ h
  pub newest_first : (p : ℕ) → p < count → p < newest (key p)
  pub older_within : (q : ℕ) → q < count → older q ≤ q
  pub older_key : (q : ℕ) → q < count → 0 < older q → key (older q - 1) ≡ key q
  pub older_next : (p q : ℕ) → p < q → q < count → key p ≡ key q → p < older q

-- the spans are within the locks, each set rises, and each is found by its hash
pub record AreLaid (hasher : NumberHasher) (locks : List ℕ) (spans : List Span) (newest : ℕ → Option ℕ) : Type 0 where
  pub starts : (p : ℕ) (d : Span) → p < length spans → (slice_index_or spans p d).start ≤ (slice_index_or spans p d).end
  pub ends : (p : ℕ) (d : Span) → p < length spans → (slice_index_or spans p d).end ≤ length locks
  pub rising : (p : ℕ) → p < length spans → IsStrictlyIncreasing (set_at (cut locks spans) p)
  pub chained : AreChained (length spans) (λ p. hash_by hasher (set_at (cut locks spans) p)) (λ p. slice_index (map (λ s. s.older) spans) p) (λ h. unwrap_or (newest h) 0)

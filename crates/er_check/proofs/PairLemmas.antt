-- Facts on the pairs of an explanation.
use Rattle.std.proofs.Common.{◌≡◌, ◌<◌, ◌+◌, ℕ, List, length, map, slice_get, slice_index_or, Some, refl, sym, ap, ◌∙◌, arith, inl, inr}
use Rattle.std.specs.Prelude.{All}
use Rattle.std.proofs.lemmas.Option.{slice_get-map, slice_get_read, slice_get-get_or, get_or_from_slice_get, slice_get_within, same_Some}
use Rattle.std.proofs.lemmas.List.{length-map}
use Rattle.std.proofs.lemmas.Bool.{cases_order}
use Rattle.er_journal.specs.declared.explanations.Uncovered.{Uncovered}

-- what a pair of the list is seen as
abbrev pub seen : Uncovered → ℕ × ℕ
seen u = (u.lock, u.at)

-- the pair that stands at a place
pub pair-here : (items : List Uncovered) (pairs : List (ℕ × ℕ)) (k : ℕ) (u : Uncovered) → map seen items ≡ pairs → k < length items → u ≡ slice_index_or items k u →
    slice_get pairs k ≡ Some (seen u)
pair-here items pairs k u same inside is =
    rw (← same) (slice_get-map seen items k ∙ rw (slice_get_read items (length items) k u refl inside is) refl)

pub pair-count : (items : List Uncovered) (pairs : List (ℕ × ℕ)) → map seen items ≡ pairs → length pairs ≡ length items
pair-count items pairs same = rw (← same) (length-map items seen)

-- what holds of each pair, by the places
module _ (P : ℕ × ℕ → Type 0) (pairs : List (ℕ × ℕ)) where
  pub all-from : ((j : ℕ) (pair : ℕ × ℕ) → slice_get pairs j ≡ Some pair → P pair) → All P pairs
  all-from each j d inside = each j (slice_index_or pairs j d) (slice_get-get_or pairs j d inside)

  pub all-at : All P pairs → (j : ℕ) (pair : ℕ × ℕ) → slice_get pairs j ≡ Some pair → P pair
  all-at all j pair is = rw (← get_or_from_slice_get pairs j pair pair is) (all j pair (slice_get_within pairs j pair is))

  pub each-next : (k : ℕ) (pair : ℕ × ℕ) → slice_get pairs k ≡ Some pair → P pair →
      ((j : ℕ) (other : ℕ × ℕ) → j < k → slice_get pairs j ≡ Some other → P other) → (j : ℕ) (other : ℕ × ℕ) → j < k + 1 → slice_get pairs j ≡ Some other → P other
  each-next k pair here holds before j other below is =
      elim (cases_order j k) [
        | inl same ↦ (let both : pair ≡ other = same_Some pair other (sym here ∙ (ap (slice_get pairs) (sym same) ∙ is)) in rw (← both) holds)
        | inr differ ↦ elim differ [ inl less ↦ before j other less is | inr more ↦ absurd (omega arith) ]
      ]

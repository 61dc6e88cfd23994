-- How far runs of words reach that begin up to a word, by borders. An end counts from its border up to the next.
use Rattle.std.specs.Prelude.{◌≡◌, ℕ, ◌≤◌, ◌<◌, nat_le, cond, max, List, [], ◌∷◌, length, take, slice_index_or}
use Rattle.std.specs.List.Sorted.{IsNonDecreasingBy}
use Rattle.er_rules.specs.declared.reach.Border.{Border}

-- the end at a word, where `before` counts up to the first border
unfoldable pub end_from : ℕ → List Border → ℕ → ℕ
end_from before [] word = before
end_from before (b ∷ bs) word = end_from (cond (nat_le b.word word) b.end before) bs word

-- no run begins before the first border
abbrev pub end_at : List Border → ℕ → ℕ
end_at borders word = end_from 0 borders word

-- a border to stand where there is none
abbrev pub no_border : Border
no_border = record { word = 0; end = 0 }

-- the word of the border at a place
abbrev pub word_at : List Border → ℕ → ℕ
word_at borders k = (slice_index_or borders k no_border).word

-- they are in the order of their words
abbrev pub AreInOrder : List Border → Type 0
AreInOrder borders = IsNonDecreasingBy (λ b. b.word) borders

-- `borders` has the farther end of the first i and j borders of two lists at each word; from `bound` on, where the next borders are, the last ends stand
pub record IsOverlaid (first second borders : List Border) (i j : ℕ) (earlier later : ℕ) (bound : ℕ) : Type 0 where
  pub i_within : i ≤ length first
  pub j_within : j ≤ length second
  pub both : (w : ℕ) → end_at borders w ≡ max (end_at (take i first) w) (end_at (take j second) w)
  pub earlier_is : (w : ℕ) → bound ≤ w → end_at (take i first) w ≡ earlier
  pub later_is : (w : ℕ) → bound ≤ w → end_at (take j second) w ≡ later
  pub first_next : i < length first → bound ≤ word_at first i
  pub second_next : j < length second → bound ≤ word_at second j
  pub order : AreInOrder borders
  pub most : (k : ℕ) (d : Border) → k < length borders → (slice_index_or borders k d).word ≤ bound

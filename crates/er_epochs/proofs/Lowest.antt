-- The lowest word that a reuse finds in use: found place by place in a block, and block by block in a range.
use Rattle.std.proofs.Common.{◌≡◌, ◌≢◌, ◌∙◌, ℕ, ◌+◌, ◌*◌, ◌<◌, ◌≤◌, ◌/◌, ◌%◌, ◌&&◌, nat_eq, nat_le, nat_lt, Bool, true, false, cond, [], is_some, Option, Some, None, IfSome, refl, sym, ap, true≢false, arith}
use Rattle.std.proofs.lemmas.Bool.Decides.{nat_tests}
use Rattle.std.specs.Option.{option_map, option_or}
use borrow.Author.Tests.{eqb-true, eqb-false}
use Rattle.std.specs.Map.{lookup}
use Rattle.er_event.specs.declared.addresses.PageRange.{PageRange}
use Rattle.er_model.specs.Words.{is_within}
use Rattle.er_epochs.proofs.Blocks.{AreResetTo, absent_block}
use Rattle.er_epochs.proofs.Places.{in_block, at_place}
use Rattle.er_epochs.specs.Known.{Known, Since, finds, reuse_query}
use Rattle.er_epochs.specs.Words.{AllWords, BlockWords, IsLowest, is_place_in, known_among, known_beside, slot_among, slot_at, slot_in_block}

-- what a reuse finds of a word, and whether it finds something
abbrev pub use_found : {A : Type 0} → (ℕ → ℕ) → Known A → Option A
use_found clock k = finds clock k reuse_query

abbrev pub is_used : {A : Type 0} → (ℕ → ℕ) → Known A → Bool
is_used clock k = is_some (use_found clock k)

-- none of the places from lo on, below this one, passes
abbrev pub IsNoneBelow : (ℕ → Bool) → ℕ → ℕ → Type 0
IsNoneBelow test lo place = (i : ℕ) → ((nat_le lo i && nat_lt i place) && test i) ≡ false

pub none_below-next : (test : ℕ → Bool) (lo place : ℕ) → IsNoneBelow test lo place → test place ≡ false → IsNoneBelow test lo (place + 1)
none_below-next test lo place none here i = by (nat_eq place i) refl
  where
    same : place ≢ i → nat_lt i (place + 1) ≡ nat_lt i place
    same apart = grind (arith, nat_tests)

    and_false : (b : Bool) → (b && false) ≡ false
    and_false true = refl
    and_false false = refl

    by : (is : Bool) → nat_eq place i ≡ is → ((nat_le lo i && nat_lt i (place + 1)) && test i) ≡ false
    by true e =
        ap (λ b. (nat_le lo i && nat_lt i (place + 1)) && b) (ap test (sym (eqb-true place i e)) ∙ here)
        ∙ and_false (nat_le lo i && nat_lt i (place + 1))
    by false e = ap (λ b. (nat_le lo i && b) && test i) (same (eqb-false place i e)) ∙ none i

-- one that passes is the lowest
pub lowest_place : (test : ℕ → Bool) (lo hi place : ℕ) → lo ≤ place → place ≤ hi → IsNoneBelow test lo place → test place ≡ true
    → IsLowest (λ i. (nat_le lo i && nat_le i hi) && test i) (Some place)
lowest_place test lo hi place low high none here = (ap (λ b. b && test place) within ∙ here, λ k below. ap (λ b. (nat_le lo k && b) && test k) (same k below) ∙ none k)
  where
    within : (nat_le lo place && nat_le place hi) ≡ true
    within = grind (arith, nat_tests)

    same : (k : ℕ) → k < place → nat_le k hi ≡ nat_lt k place
    same k below = grind (arith, nat_tests)

-- the lowest place in a block is the lowest word of the block
pub lowest_word : (number : ℕ) (places words : ℕ → Bool) (place : Option ℕ)
    → ((i : ℕ) → places i ≡ true → i < 32)
    → ((w : ℕ) → number ≡ w / 32 → words w ≡ places (w % 32))
    → ((w : ℕ) → nat_eq number (w / 32) ≡ false → words w ≡ false)
    → IsLowest places place → IsLowest words (option_map (λ i. number * 32 + i) place)
lowest_word number places words None short here else none = λ w. by w (nat_eq number (w / 32)) refl
  where
    by : (w : ℕ) (b : Bool) → nat_eq number (w / 32) ≡ b → words w ≡ false
    by w true e = here w (eqb-true number (w / 32) e) ∙ none (w % 32)
    by w false e = else w e
lowest_word number places words (Some i) short here else lowest =
    (here (number * 32 + i) (sym (in_block number i within)) ∙ (ap places (at_place number i within) ∙ lowest.0), below)
  where
    within : i < 32
    within = short i lowest.0

    lower : (w : ℕ) → w < number * 32 + i → number ≡ w / 32 → w % 32 < i
    lower w under e = omega (arith, under, e)

    below : (w : ℕ) → w < number * 32 + i → words w ≡ false
    below w under = by (nat_eq number (w / 32)) refl
      where
        by : (b : Bool) → nat_eq number (w / 32) ≡ b → words w ≡ false
        by true e = let at = eqb-true number (w / 32) e in here w at ∙ lowest.1 (w % 32) (lower w under at)
        by false e = else w e

-- the lowest word of the blocks before this number, or else of the block of this number, is the lowest of both
module _ (number : ℕ) (before here both : ℕ → Bool)
    (before_none : (w : ℕ) → number ≤ w / 32 → before w ≡ false)
    (both_before : (w : ℕ) → w / 32 < number → both w ≡ before w)
    (both_here : (w : ℕ) → number ≡ w / 32 → both w ≡ here w)
    (both_none : (w : ℕ) → number < w / 32 → both w ≡ false)
    (here_else : (w : ℕ) → nat_eq number (w / 32) ≡ false → here w ≡ false) where
  in_before : (w : ℕ) → before w ≡ true → w / 32 < number
  in_before w is = by (nat_lt (w / 32) number) refl
    where
      by : (b : Bool) → nat_lt (w / 32) number ≡ b → w / 32 < number
      by true e = grind (arith, nat_tests)
      by false e = absurd (true≢false (sym is ∙ before_none w (grind (arith, nat_tests))))

  in_here : (w : ℕ) → here w ≡ true → number ≡ w / 32
  in_here w is = by (nat_eq number (w / 32)) refl
    where
      by : (b : Bool) → nat_eq number (w / 32) ≡ b → number ≡ w / 32
      by true e = eqb-true number (w / 32) e
      by false e = absurd (true≢false (sym is ∙ here_else w e))

  neither : (w : ℕ) → before w ≡ false → here w ≡ false → both w ≡ false
  neither w early late = by (nat_lt (w / 32) number) refl
    where
      by_here : (b : Bool) → nat_eq number (w / 32) ≡ b → nat_lt (w / 32) number ≡ false → both w ≡ false
      by_here true e past = both_here w (eqb-true number (w / 32) e) ∙ late
      by_here false e past = both_none w (grind (arith, nat_tests))

      by : (b : Bool) → nat_lt (w / 32) number ≡ b → both w ≡ false
      by true e = both_before w (grind (arith, nat_tests)) ∙ early
      by false e = by_here (nat_eq number (w / 32)) refl e

  lower_block : (k w : ℕ) → k < w → w / 32 < number → k / 32 < number
  lower_block k w below early = omega (arith, below, early)

  pub lowest_of_both : (first second : Option ℕ) → IsLowest before first → IsLowest here second → IsLowest both (option_or first second)
  lowest_of_both (Some w) second lowest other =
      let early = in_before w lowest.0 in
      (both_before w early ∙ lowest.0, λ k below. both_before k (lower_block k w below early) ∙ lowest.1 k below)
  lowest_of_both None None none other = λ w. neither w (none w) (other w)
  lowest_of_both None (Some w) none lowest =
      (both_here w (in_here w lowest.0) ∙ lowest.0, λ k below. neither k (none k) (lowest.1 k below))

module _ {A : Type 0} where
  -- a block was found
  pub lowest_in_block : (all : AllWords A) (number lo hi : ℕ) (was : BlockWords A) (clock : ℕ → ℕ) (place : Option ℕ)
      → Some was ≡ lookup (nat_eq number) all.blocks → hi < 32
      → IsLowest (λ i. (nat_le lo i && nat_le i hi) && is_used clock (known_beside all.lists (number * 32 + i) (slot_at was i))) place
      → IsLowest (λ w. is_place_in number lo hi w && is_used clock (known_among all w)) (option_map (λ i. number * 32 + i) place)
  unfolding known_among
  lowest_in_block all number lo hi was clock place found within lowest =
      lowest_word number _ _ place short here else lowest
    where
      short_by : (i : ℕ) (b : Bool) → ((nat_le lo i && nat_le i hi) && b) ≡ true → i < 32
      short_by i true e = grind (arith, nat_tests)
      short_by i false e = grind (arith, nat_tests)

      short : (i : ℕ) → ((nat_le lo i && nat_le i hi) && is_used clock (known_beside all.lists (number * 32 + i) (slot_at was i))) ≡ true → i < 32
      short i e = short_by i (is_used clock (known_beside all.lists (number * 32 + i) (slot_at was i))) e

      is_word : (w : ℕ) → number ≡ w / 32 → w ≡ number * 32 + w % 32
      is_word w at = omega (arith, at)

      here_in : (w : ℕ) → number ≡ w / 32 → nat_eq number (w / 32) ≡ true
      here_in w at = grind (arith, nat_tests)

      here : (w : ℕ) → number ≡ w / 32
          → (is_place_in number lo hi w && is_used clock (known_beside all.lists w (slot_among all.blocks w)))
          ≡ ((nat_le lo (w % 32) && nat_le (w % 32) hi) && is_used clock (known_beside all.lists (number * 32 + w % 32) (slot_at was (w % 32))))
      here w at =
          ap (λ b. (b && (nat_le lo (w % 32) && nat_le (w % 32) hi)) && is_used clock (known_beside all.lists w (slot_among all.blocks w))) (here_in w at)
          ∙ (λ k. (nat_le lo (w % 32) && nat_le (w % 32) hi) && is_used clock (known_beside all.lists (is_word w at k) (slot_in_block (same_block w at k) (w % 32))))
        where
          same_block : (w : ℕ) → number ≡ w / 32 → lookup (nat_eq (w / 32)) all.blocks ≡ Some was
          same_block w at = ap (λ q. lookup (nat_eq q) all.blocks) (sym at) ∙ sym found

      else : (w : ℕ) → nat_eq number (w / 32) ≡ false → (is_place_in number lo hi w && is_used clock (known_beside all.lists w (slot_among all.blocks w))) ≡ false
      else w apart = ap (λ b. (b && (nat_le lo (w % 32) && nat_le (w % 32) hi)) && is_used clock (known_beside all.lists w (slot_among all.blocks w))) apart

  -- and what is found at its place is found of the word
  pub named_in_block : (all : AllWords A) (number lo hi : ℕ) (was : BlockWords A) (clock : ℕ → ℕ) (place : Option (ℕ × A))
      → Some was ≡ lookup (nat_eq number) all.blocks → hi < 32
      → IsLowest (λ i. (nat_le lo i && nat_le i hi) && is_used clock (known_beside all.lists (number * 32 + i) (slot_at was i))) (option_map (λ (found : ℕ × A). found.0) place)
      → IfSome place (λ found. Some found.1 ≡ use_found clock (known_beside all.lists (number * 32 + found.0) (slot_at was found.0)))
      → IfSome {T = ℕ × A} (option_map (λ (found : ℕ × A). (number * 32 + found.0, found.1)) place) (λ found. Some found.1 ≡ use_found clock (known_among all found.0))
  unfolding known_among
  named_in_block all number lo hi was clock None found within lowest named = tt
  named_in_block all number lo hi was clock (Some (i, a)) found within lowest named =
      named ∙ (λ k. use_found clock (known_beside all.lists (number * 32 + i) (slot_in_block (same_block k) (sym (at_place number i short) k))))
    where
      short : i < 32
      short = short_by (is_used clock (known_beside all.lists (number * 32 + i) (slot_at was i))) lowest.0
        where
          short_by : (b : Bool) → ((nat_le lo i && nat_le i hi) && b) ≡ true → i < 32
          short_by true e = grind (arith, nat_tests)
          short_by false e = grind (arith, nat_tests)

      same_block : Some was ≡ lookup (nat_eq ((number * 32 + i) / 32)) all.blocks
      same_block = found ∙ ap (λ q. lookup (nat_eq q) all.blocks) (sym (in_block number i short))

  -- or there is none
  pub none_in_absent : (all : AllWords A) (number lo hi : ℕ) (clock : ℕ → ℕ) → lookup (nat_eq number) all.blocks ≡ None
      → (w : ℕ) → (is_place_in number lo hi w && is_used clock (known_among all w)) ≡ false
  none_in_absent all number lo hi clock absent w = by (is_place_in number lo hi w) refl (absent_block all number lo hi absent w)
    where
      by : (b : Bool) → is_place_in number lo hi w ≡ b → known_among all w ≡ cond (is_place_in number lo hi w) (Since []) (known_among all w) → (b && is_used clock (known_among all w)) ≡ false
      by true e same = ap (λ kept. is_used clock kept) (same ∙ ap (λ b. cond b (Since []) (known_among all w)) e)
      by false e same = refl

  -- the blocks of a range, one after another
  abbrev pub IsLowestBelow : AllWords A → PageRange → (ℕ → ℕ) → ℕ → Option ℕ → Type 0
  IsLowestBelow old range clock number found = IsLowest (λ w. (is_within w range && nat_lt (w / 32) number) && is_used clock (known_among old w)) found

  pub lowest_start : (old : AllWords A) (range : PageRange) (clock : ℕ → ℕ) (number : ℕ) → number ≡ range.lo / 32 → IsLowestBelow old range clock number None
  lowest_start old range clock number is w = ap (λ b. b && is_used clock (known_among old w)) none
    where
      none : (is_within w range && nat_lt (w / 32) number) ≡ false
      none = grind (arith, nat_tests)

  pub lowest_more : (old now : AllWords A) (range : PageRange) (clock : ℕ → ℕ) (number lo hi : ℕ) (first second : Option ℕ)
      → ((w : ℕ) → number ≡ w / 32 → nat_le lo (w % 32) ≡ nat_le range.lo w)
      → ((w : ℕ) → number ≡ w / 32 → nat_le (w % 32) hi ≡ nat_le w range.hi)
      → ((w : ℕ) → number ≡ w / 32 → known_among now w ≡ known_among old w)
      → IsLowestBelow old range clock number first
      → IsLowest (λ w. is_place_in number lo hi w && is_used clock (known_among now w)) second
      → IsLowestBelow old range clock (number + 1) (option_or first second)
  lowest_more old now range clock number lo hi first second low high as_before found more =
      lowest_of_both number _ _ _ before_none both_before both_here both_none here_else first second found more
    where
      by_bound : (w : ℕ) (b c : Bool) → nat_lt (w / 32) number ≡ b → b ≡ c → ((is_within w range && nat_lt (w / 32) number) && is_used clock (known_among old w)) ≡ ((is_within w range && c) && is_used clock (known_among old w))
      by_bound w b c e is = ap (λ b. (is_within w range && b) && is_used clock (known_among old w)) (e ∙ is)

      and_none : (w : ℕ) → ((is_within w range && false) && is_used clock (known_among old w)) ≡ false
      and_none w = ap (λ b. b && is_used clock (known_among old w)) (no_more (is_within w range))
        where
          no_more : (b : Bool) → (b && false) ≡ false
          no_more true = refl
          no_more false = refl

      not_before : (w : ℕ) → number ≤ w / 32 → nat_lt (w / 32) number ≡ false
      not_before w past = grind (arith, nat_tests)

      before_none : (w : ℕ) → number ≤ w / 32 → ((is_within w range && nat_lt (w / 32) number) && is_used clock (known_among old w)) ≡ false
      before_none w past = by_bound w false false (not_before w past) refl ∙ and_none w

      same_bound : (w : ℕ) → w / 32 < number → nat_lt (w / 32) (number + 1) ≡ nat_lt (w / 32) number
      same_bound w early = grind (arith, nat_tests)

      both_before : (w : ℕ) → w / 32 < number
          → ((is_within w range && nat_lt (w / 32) (number + 1)) && is_used clock (known_among old w)) ≡ ((is_within w range && nat_lt (w / 32) number) && is_used clock (known_among old w))
      both_before w early = ap (λ b. (is_within w range && b) && is_used clock (known_among old w)) (same_bound w early)

      past_bound : (w : ℕ) → number < w / 32 → nat_lt (w / 32) (number + 1) ≡ false
      past_bound w late = grind (arith, nat_tests)

      both_none : (w : ℕ) → number < w / 32 → ((is_within w range && nat_lt (w / 32) (number + 1)) && is_used clock (known_among old w)) ≡ false
      both_none w late = ap (λ b. (is_within w range && b) && is_used clock (known_among old w)) (past_bound w late) ∙ and_none w

      here_else : (w : ℕ) → nat_eq number (w / 32) ≡ false → (is_place_in number lo hi w && is_used clock (known_among now w)) ≡ false
      here_else w apart = ap (λ b. (b && (nat_le lo (w % 32) && nat_le (w % 32) hi)) && is_used clock (known_among now w)) apart

      at_bound : (w : ℕ) → number ≡ w / 32 → nat_lt (w / 32) (number + 1) ≡ true
      at_bound w at = grind (arith, nat_tests)

      at_number : (w : ℕ) → number ≡ w / 32 → nat_eq number (w / 32) ≡ true
      at_number w at = grind (arith, nat_tests)

      and_true : (b : Bool) → (b && true) ≡ b
      and_true true = refl
      and_true false = refl

      both_here : (w : ℕ) → number ≡ w / 32
          → ((is_within w range && nat_lt (w / 32) (number + 1)) && is_used clock (known_among old w)) ≡ (is_place_in number lo hi w && is_used clock (known_among now w))
      both_here w at =
          ap (λ b. b && is_used clock (known_among old w)) (ap (λ b. is_within w range && b) (at_bound w at) ∙ and_true (is_within w range))
          ∙ (λ k. (sym (low w at) k && sym (high w at) k) && is_used clock (sym (as_before w at) k))
          ∙ ap (λ b. (b && (nat_le lo (w % 32) && nat_le (w % 32) hi)) && is_used clock (known_among now w)) (sym (at_number w at))

  -- where the blocks before this one were reset
  module _ (old now : AllWords A) (range : PageRange) (clock : ℕ → ℕ) (number lo hi : ℕ) (so_far : AreResetTo old now range number) where
    as_before : (w : ℕ) → number ≡ w / 32 → known_among now w ≡ known_among old w
    as_before w at = so_far w ∙ ap (λ b. cond b (Since []) (known_among old w)) (ap (λ b. is_within w range && b) not_before ∙ no_more (is_within w range))
      where
        not_before : nat_lt (w / 32) number ≡ false
        not_before = grind (arith, nat_tests)

        no_more : (b : Bool) → (b && false) ≡ false
        no_more true = refl
        no_more false = refl

    pub lowest_next : (first second : Option ℕ)
        → ((w : ℕ) → number ≡ w / 32 → nat_le lo (w % 32) ≡ nat_le range.lo w)
        → ((w : ℕ) → number ≡ w / 32 → nat_le (w % 32) hi ≡ nat_le w range.hi)
        → IsLowestBelow old range clock number first
        → IsLowest (λ w. is_place_in number lo hi w && is_used clock (known_among now w)) second
        → IsLowestBelow old range clock (number + 1) (option_or first second)
    lowest_next first second low high found more = lowest_more old now range clock number lo hi first second low high as_before found more

    -- what is found of a word there was found before
    pub named_before : (found : Option (ℕ × A)) → IsLowest (λ w. is_place_in number lo hi w && is_used clock (known_among now w)) (option_map (λ (found : ℕ × A). found.0) found)
        → IfSome found (λ found. Some found.1 ≡ use_found clock (known_among now found.0)) → IfSome found (λ found. Some found.1 ≡ use_found clock (known_among old found.0))
    named_before None lowest named = tt
    named_before (Some (w, a)) lowest named = named ∙ ap (λ stored. use_found clock stored) (as_before w (in_number (nat_eq number (w / 32)) refl lowest.0))
      where
        in_number : (b : Bool) → nat_eq number (w / 32) ≡ b → ((b && (nat_le lo (w % 32) && nat_le (w % 32) hi)) && is_used clock (known_among now w)) ≡ true → number ≡ w / 32
        in_number true e is = eqb-true number (w / 32) e
        in_number false e is = cc

  pub lowest_end : (old : AllWords A) (range : PageRange) (clock : ℕ → ℕ) (number : ℕ) (found : Option ℕ) → range.hi / 32 + 1 ≤ number
      → IsLowestBelow old range clock number found → IsLowest (λ w. is_within w range && is_used clock (known_among old w)) found
  lowest_end old range clock number found past lowest = by found lowest
    where
      all : (w : ℕ) → (is_within w range && nat_lt (w / 32) number) ≡ is_within w range
      all w = grind (arith, nat_tests)

      same : (w : ℕ) → (is_within w range && is_used clock (known_among old w)) ≡ ((is_within w range && nat_lt (w / 32) number) && is_used clock (known_among old w))
      same w = ap (λ b. b && is_used clock (known_among old w)) (sym (all w))

      by : (found : Option ℕ) → IsLowestBelow old range clock number found → IsLowest (λ w. is_within w range && is_used clock (known_among old w)) found
      by (Some w) lowest = (same w ∙ lowest.0, λ k below. same k ∙ lowest.1 k below)
      by None none = λ w. same w ∙ none w

-- what was found beside the numbers
pub found_or : {A : Type 0} (first second : Option (ℕ × A)) → option_map (λ (found : ℕ × A). found.0) (option_or first second) ≡ option_or (option_map (λ (found : ℕ × A). found.0) first) (option_map (λ (found : ℕ × A). found.0) second)
found_or (Some found) second = refl
found_or None second = refl

pub all_or : {X : Type 0} (P : X → Type 0) (first second : Option X) → IfSome first P → IfSome second P → IfSome (option_or first second) P
all_or P (Some x) second here there = here
all_or P None second here there = there

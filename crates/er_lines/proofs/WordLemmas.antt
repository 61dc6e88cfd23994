-- The first word of a line, found by the places of gaps.
use Rattle.std.proofs.Common.{◌≡◌, ℕ, suc, ◌+◌, ◌≤◌, Bool, true, false, not, cond, List, [], ◌∷◌, ◌++◌, length, take, drop, get_or, filter, position, unwrap_or, refl, sym, ap, ◌∙◌, arith, inl, inr}
use Rattle.std.specs.List.{position_or_len, slice_split}
use Rattle.std.proofs.lemmas.List.Splits.{slice_split-cons_yes, slice_split_first, slice_split_none}
use Rattle.std.proofs.lemmas.List.Sums.{passes_at_first, fails_before_first}
use Rattle.std.proofs.lemmas.List.{drop_more, take_all, drop_all, append-nil}
use Rattle.std.proofs.lemmas.Bool.Decides.{nat_tests}
use Rattle.std.proofs.lemmas.Bool.{cases_lt}
use Rattle.er_lines.specs.Lines.{is_gap, has_bytes, words, first_of}

pub place_le : (p : ℕ → Bool) (xs : List ℕ) → position_or_len p xs ≤ length xs
place_le p [] = omega arith
place_le p (x ∷ xs) =
    let more = place_le p xs in
    elim (p x) as (λ b. cond (not b) (1 + position_or_len p xs) 0 ≤ suc (length xs)) [ true ↦ omega arith | false ↦ omega (arith, more) ]

pub place_of : (p : ℕ → Bool) (xs : List ℕ) → unwrap_or (position p xs) (length xs) ≡ position_or_len p xs
place_of p xs = grind (arith, nat_tests, place_le p xs)

abbrev no_gap : ℕ → Bool
no_gap byte = not (is_gap byte)

-- a line that is empty or begins with a word
abbrev Starts : List ℕ → Type 0
Starts [] = Unit {0}
Starts (x ∷ xs) = is_gap x ≡ false

skip_step : (x : ℕ) (xs : List ℕ) (b : Bool) → is_gap x ≡ b
    → (words (drop (position_or_len no_gap xs) xs) ≡ words xs) × Starts (drop (position_or_len no_gap xs) xs)
    → (words (drop (position_or_len no_gap (x ∷ xs)) (x ∷ xs)) ≡ words (x ∷ xs)) × Starts (drop (position_or_len no_gap (x ∷ xs)) (x ∷ xs))
skip_step x xs true e rest =
    let one : 1 + position_or_len no_gap xs ≡ suc (position_or_len no_gap xs) = omega arith in
    rw (e, one) rest
skip_step x xs false e rest = rw e (rw e refl, e)

-- the gaps in front belong to no word
pub skip_gaps : (xs : List ℕ) → (words (drop (position_or_len no_gap xs) xs) ≡ words xs) × Starts (drop (position_or_len no_gap xs) xs)
skip_gaps [] = (refl, tt)
skip_gaps (x ∷ xs) = skip_step x xs (is_gap x) refl (skip_gaps xs)

filter_first : (w : List ℕ) (ws : List (List ℕ)) → filter has_bytes (w ∷ ws) ≡ filter has_bytes (w ∷ []) ++ filter has_bytes ws
filter_first [] ws = refl
filter_first (x ∷ xs) ws = refl

-- the words are the part up to the first gap, if it has bytes, and those of what follows
pub word_front : (xs : List ℕ) → words xs ≡ filter has_bytes (take (position_or_len is_gap xs) xs ∷ []) ++ words (drop (position_or_len is_gap xs) xs)
word_front xs =
    let k = position_or_len is_gap xs in
    elim (cases_lt k (length xs)) [
      | inl within ↦
          let more = drop_more xs k 0 within in
          let gap = slice_split-cons_yes is_gap (get_or xs k 0) (drop (k + 1) xs) (passes_at_first is_gap xs 0 within) in
          ap (filter has_bytes) (slice_split_first is_gap xs 0 within)
          ∙ filter_first (take k xs) (slice_split is_gap (drop (k + 1) xs))
          ∙ ap (λ (ws : List (List ℕ)). filter has_bytes (take k xs ∷ []) ++ ws) (sym (ap words more ∙ ap (filter has_bytes) gap))
      | inr past ↦
          let none = slice_split_none is_gap xs (λ i d h. fails_before_first is_gap xs i d (omega arith)) in
          ap (filter has_bytes) none
          ∙ (rw (take_all k xs past, drop_all k xs past) (sym (append-nil (filter has_bytes (xs ∷ [])))))
    ]

at_word : (line rest : List ℕ) → words rest ≡ words line → Starts rest
    → (take (position_or_len is_gap rest) rest ≡ first_of (words line)) × (words (drop (position_or_len is_gap rest) rest) ≡ drop 1 (words line))
at_word line [] same start = (ap first_of same, ap (drop 1) same)
at_word line (x ∷ xs) same start =
    let one : 1 + position_or_len is_gap xs ≡ suc (position_or_len is_gap xs) = omega arith in
    let all = sym same ∙ word_front (x ∷ xs) in
    let front = rw (start, one) at all in
    rw (start, one) (sym (ap first_of front), sym (ap (drop 1) front))

-- what is found by the two places
pub next_is : (line rest word after : List ℕ) (gaps len : ℕ) → gaps ≡ position_or_len no_gap line → rest ≡ drop gaps line
    → len ≡ position_or_len is_gap rest → word ≡ take len rest → after ≡ drop len rest
    → (word ≡ first_of (words line)) × (words after ≡ drop 1 (words line))
next_is line rest word after gaps len eg er el ew ea =
    let found = skip_gaps line in
    rw (ew, ea, el, er, eg) (at_word line (drop (position_or_len no_gap line) line) found.0 found.1)

-- Where the places of a block's books stand, and what a book more or one less changes.
use Rattle.std.proofs.Common.{◌≡◌, ◌≢◌, ◌∙◌, ◌==◌, ℕ, ◌+◌, ◌<◌, ◌≤◌, ◌&&◌, nat_eq, nat_le, nat_lt, Bool, true, false, cond, List, [], ◌∷◌, ◌++◌, length, slice_index_or, slice_set, ◌⊎◌, inl, inr, refl, sym, ap, arith, not, zero, suc, take, slice_get, Option, Some, None}
use Rattle.std.proofs.lemmas.Bool.Decides.{nat_tests}
use Rattle.std.proofs.lemmas.List.{get_or-set_same, get_or-set_other, length-set}
use Rattle.std.proofs.lemmas.Simd.{run_in_chunk_fails, run_in_chunk_stops}
use Rattle.std.specs.List.{position_or_len}
use lib.Lanes.{chunk}
use Rattle.std.proofs.lemmas.List.Sums.{position_or_len_is, fails_before_first, passes_at_first}
use borrow.Author.Tests.{eqb-true, eqb-false, eq-eqb, ltb-true, ltb-false}
use Rattle.std.proofs.lemmas.List.{take_more, take_all, take-set-le, length-take-le}
use Rattle.std.proofs.lemmas.Option.{slice_get_past}
use Rattle.std.specs.Option.{option_or}
use Rattle.std.specs.List.{SwappedAt}
use Rattle.er_explain.specs.Inner.Places.{number_at, found_at}

-- the place of the book of this number
abbrev pub place_at : List ℕ → ℕ → ℕ
place_at places number = slice_index_or places number 0

-- a number is below another, or it isn't
pub below_or : (a b : ℕ) → (a < b) ⊎ (b ≤ a)
below_or a b = by (nat_lt a b) refl
  where
    by : (t : Bool) → nat_lt a b ≡ t → (a < b) ⊎ (b ≤ a)
    by true e = inl (ltb-true a b e)
    by false e = inr (ltb-false a b e)

pub same_or : (a b : ℕ) → (a ≡ b) ⊎ (a ≢ b)
same_or a b = by (nat_eq a b) refl
  where
    by : (t : Bool) → nat_eq a b ≡ t → (a ≡ b) ⊎ (a ≢ b)
    by true e = inl (eqb-true a b e)
    by false e = inr (eqb-false a b e)

pub no_equal : (a b : ℕ) → a ≢ b → (a == b) ≡ false
no_equal a b differ = by (a == b) refl
  where
    by : (t : Bool) → (a == b) ≡ t → t ≡ false
    by true e = absurd (differ (eqb-true a b e))
    by false e = refl

-- a place stands at its number, and nowhere before it
pub place_there : (ps : List ℕ) (i : ℕ) → number_at ps i < length ps → place_at ps (number_at ps i) ≡ i
place_there ps i within = eqb-true (place_at ps (number_at ps i)) i (passes_at_first (λ p. p == i) ps 0 within)

pub other_before : (ps : List ℕ) (i k : ℕ) → k < number_at ps i → place_at ps k ≢ i
other_before ps i k before = eqb-false (place_at ps k) i (fails_before_first (λ p. p == i) ps k 0 before)

-- and that fixes the number
pub number_is : (ps : List ℕ) (i n : ℕ) → n < length ps → place_at ps n ≡ i → ((k : ℕ) → k < n → place_at ps k ≢ i) → number_at ps i ≡ n
number_is ps i n within is others =
    position_or_len_is (λ p. p == i) ps n 0 (omega (arith, within)) (λ k before. no_equal (place_at ps k) i (others k before)) (λ _. eq-eqb (place_at ps n) i is)

-- a place that stands at none of the first numbers
pub number_past : (ps : List ℕ) (i n : ℕ) → n ≤ length ps → ((k : ℕ) → k < n → place_at ps k ≢ i) → n ≤ number_at ps i
number_past ps i n within others = by (below_or (number_at ps i) n)
  where
    by : (number_at ps i < n) ⊎ (n ≤ number_at ps i) → n ≤ number_at ps i
    by (inl below) = absurd (others (number_at ps i) below (place_there ps i (omega (arith, below, within))))
    by (inr past) = past

-- Books by their places

module _ {X : Type 0} where
  -- the first book of a place has the number at which it stands first
  pub found-number : (ps : List ℕ) (books : List X) (i : ℕ) → length books ≤ length ps → found_at ps books i ≡ slice_get books (number_at ps i)
  unfolding found_at
  found-number [] [] i room = refl
  found-number [] (b ∷ books) i room = absurd (omega arith)
  found-number (p ∷ ps) [] i room = refl
  found-number (p ∷ ps) (b ∷ books) i room = by (p == i) (found-number ps books i (omega arith))
    where
      one_on : (n : ℕ) → suc n ≡ 1 + n
      one_on n = omega arith

      by : (t : Bool) → found_at ps books i ≡ slice_get books (number_at ps i) → cond t (Some b) (found_at ps books i) ≡ slice_get (b ∷ books) (cond (not t) (1 + number_at ps i) 0)
      by true same = refl
      by false same = same ∙ ap (slice_get (b ∷ books)) (one_on (number_at ps i))

  one_there : (books : List X) (n : ℕ) → n < length books → (x : X) × ((d : X) → slice_index_or books n d ≡ x)
  one_there [] n within = absurd (omega arith)
  one_there (x ∷ books) zero within = (x, λ d. refl)
  one_there (x ∷ books) (suc n) within = one_there books n (omega arith)

  -- among none there is none
  found-none : (ps : List ℕ) (i : ℕ) → found_at {X = X} ps [] i ≡ None
  unfolding found_at
  found-none [] i = refl
  found-none (p ∷ ps) i = refl

  -- one book more counts if its place had none
  found-more : (ps : List ℕ) (books : List X) (b : X) (i : ℕ) → length books < length ps
      → found_at ps (books ++ (b ∷ [])) i ≡ option_or (found_at ps books i) (cond (place_at ps (length books) == i) (Some b) None)
  unfolding found_at
  found-more [] books b i room = absurd (omega arith)
  found-more (p ∷ ps) [] b i room = ap (λ o. cond (p == i) (Some b) o) (found-none ps i)
  found-more (p ∷ ps) (x ∷ books) b i room = by (p == i) (found-more ps books b i (omega arith))
    where
      by : (t : Bool) → found_at ps (books ++ (b ∷ [])) i ≡ option_or (found_at ps books i) (cond (place_at ps (length books) == i) (Some b) None)
          → cond t (Some x) (found_at ps (books ++ (b ∷ [])) i) ≡ option_or (cond t (Some x) (found_at ps books i)) (cond (place_at ps (length books) == i) (Some b) None)
      by true same = refl
      by false same = same

  -- a place behind the books says nothing
  found-behind : (ps : List ℕ) (books : List X) (n place i : ℕ) → length books ≤ n → found_at (slice_set ps n place) books i ≡ found_at ps books i
  unfolding found_at
  found-behind [] books n place i behind = refl
  found-behind (p ∷ ps) [] n place i behind = found-none (slice_set (p ∷ ps) n place) i
  found-behind (p ∷ ps) (b ∷ books) zero place i behind = absurd (omega arith)
  found-behind (p ∷ ps) (b ∷ books) (suc n) place i behind = ap (λ o. cond (p == i) (Some b) o) (found-behind ps books n place i (omega arith))

  -- so a book that gets the place behind the others counts if the place had none
  pub found-put : (ps : List ℕ) (books : List X) (b : X) (place i : ℕ) → length books < length ps
      → found_at (slice_set ps (length books) place) (books ++ (b ∷ [])) i ≡ option_or (found_at ps books i) (cond (place == i) (Some b) None)
  found-put ps books b place i room =
      found-more (slice_set ps (length books) place) books b i (omega (arith, room, length-set ps (length books) place))
      ∙ (λ k. option_or (found-behind ps books (length books) place i (omega arith) k) (cond (get_or-set_same ps (length books) place 0 room k == i) (Some b) None))

  pub found-first : (ps : List ℕ) (b : X) (place i : ℕ) → 0 < length ps → found_at (slice_set ps 0 place) (b ∷ []) i ≡ cond (place == i) (Some b) None
  found-first ps b place i room = found-put ps [] b place i room ∙ ap (λ o. option_or o (cond (place == i) (Some b) None)) (found-none ps i)

  -- what a search finds
  pub found-by : (ps : List ℕ) (books : List X) (place n : ℕ) → length books ≤ length ps → (n < length books → n ≡ number_at ps place) → (length books ≤ n → length books ≤ number_at ps place)
      → slice_get books n ≡ found_at ps books place
  found-by ps books place n room found past = by (below_or n (length books))
    where
      by : (n < length books) ⊎ (length books ≤ n) → slice_get books n ≡ found_at ps books place
      by (inl below) = ap (slice_get books) (found below) ∙ sym (found-number ps books place room)
      by (inr none) = slice_get_past books n none ∙ sym (found-number ps books place room ∙ slice_get_past books (number_at ps place) (past none))

  -- the first book of a place is another one now
  pub found-set : (ps : List ℕ) (books : List X) (place : ℕ) (after : X) (i : ℕ) → length books ≤ length ps → number_at ps place < length books
      → found_at ps (slice_set books (number_at ps place) after) i ≡ cond (place == i) (Some after) (found_at ps books i)
  unfolding found_at
  found-set ps [] place after i room within = absurd (omega arith)
  found-set [] (b ∷ books) place after i room within = absurd (omega arith)
  found-set (p ∷ ps) (b ∷ books) place after i room within = by (p == place) refl within (λ below. found-set ps books place after i (omega arith) below)
    where
      rest : Option X
      rest = found_at ps books i

      one_on : (n : ℕ) → 1 + n ≡ suc n
      one_on n = omega arith

      twice : (t : Bool) → cond t (Some after) rest ≡ cond t (Some after) (cond t (Some b) rest)
      twice true = refl
      twice false = refl

      turned : (t u : Bool) → (p == i) ≡ t → (place == i) ≡ u → (p == place) ≡ false → cond t (Some b) (cond u (Some after) rest) ≡ cond u (Some after) (cond t (Some b) rest)
      turned true true one other apart =
          absurd (eqb-false p place apart (eqb-true p i one ∙ sym (eqb-true place i other)))
      turned true false one other apart = refl
      turned false u one other apart = refl

      by : (t : Bool) → (p == place) ≡ t → cond (not t) (1 + number_at ps place) 0 < suc (length books)
          → (number_at ps place < length books → found_at ps (slice_set books (number_at ps place) after) i ≡ cond (place == i) (Some after) rest)
          → found_at (p ∷ ps) (slice_set (b ∷ books) (cond (not t) (1 + number_at ps place) 0) after) i ≡ cond (place == i) (Some after) (cond (p == i) (Some b) rest)
      by true e below same = rw (eqb-true p place e) (twice (place == i))
      by false e below same =
          ap (λ n. found_at (p ∷ ps) (slice_set (b ∷ books) n after) i) (one_on (number_at ps place))
          ∙ ap (λ o. cond (p == i) (Some b) o) (same (omega arith))
          ∙ turned (p == i) (place == i) refl refl e

-- The books of the places from lo to hi go, and the others move together

-- the place is one of those from lo to hi
abbrev pub is_between : ℕ → ℕ → ℕ → Bool
is_between lo hi i = nat_le lo i && nat_le i hi

pub between_in : (lo hi i : ℕ) → lo ≤ i → i ≤ hi → is_between lo hi i ≡ true
between_in lo hi i low high = grind (arith, nat_tests)

pub between_low : (lo hi i : ℕ) → i < lo → is_between lo hi i ≡ false
between_low lo hi i low = grind (arith, nat_tests)

pub between_high : (lo hi i : ℕ) → hi < i → is_between lo hi i ≡ false
between_high lo hi i high = grind (arith, nat_tests)

-- of the first so many books those that stay stand in front, and those behind stand where they did
pub record AreKeptTo {X : Type 0} (ps : List ℕ) (books : List X) (left : List ℕ) (fewer : List X) (lo hi kept number : ℕ) : Type 0 where
  pub before : kept ≤ number
  pub few : number ≤ length books
  pub all : length fewer ≡ length books
  pub long : length left ≡ length ps
  pub found : (i : ℕ) → found_at left (take kept fewer) i ≡ cond (is_between lo hi i) None (found_at ps (take number books) i)
  pub rest : (k : ℕ) (d : X) → number ≤ k → slice_index_or fewer k d ≡ slice_index_or books k d
  pub places : (k : ℕ) → number ≤ k → place_at left k ≡ place_at ps k

module _ {X : Type 0} (ps : List ℕ) (books : List X) (lo hi : ℕ) where
  pub kept-none : AreKeptTo ps books ps books lo hi 0 0
  kept-none =
      record {
        before = omega arith;
        few = omega arith;
        all = refl;
        long = refl;
        found = λ i. none (is_between lo hi i) i (take_none books);
        rest = λ k d past. refl;
        places = λ k past. refl;
      }
    where
      take_none : (xs : List X) → take 0 xs ≡ []
      take_none [] = refl
      take_none (x ∷ xs) = refl

      none : (t : Bool) (i : ℕ) → take 0 books ≡ [] → found_at ps (take 0 books) i ≡ cond t None (found_at ps (take 0 books) i)
      none true i is = ap (λ xs. found_at ps xs i) is ∙ found-none ps i
      none false i is = refl

  module _ (room : length books ≤ length ps) (left : List ℕ) (fewer : List X) (kept number : ℕ) (so_far : AreKeptTo ps books left fewer lo hi kept number) (within : number < length books) where
    -- the next book
    abbrev there : (x : X) × ((d : X) → slice_index_or books number d ≡ x)
    there = one_there books number within

    abbrev b : X
    b = there.0

    -- the first books of the old ones and the next
    first_and : take (number + 1) books ≡ take number books ++ (b ∷ [])
    first_and = take_more books number b within ∙ ap (λ (x : X). take number books ++ (x ∷ [])) (there.1 b)

    so_many : length (take number books) ≡ number
    so_many = length-take-le number books (omega (arith, within))

    old : (i : ℕ) → found_at ps (take (number + 1) books) i ≡ option_or (found_at ps (take number books) i) (cond (place_at left number == i) (Some b) None)
    old i =
        ap (λ (xs : List X). found_at ps xs i) first_and
        ∙ found-more ps (take number books) b i (omega (arith, so_many, within, room))
        ∙ ap (λ n. option_or (found_at ps (take number books) i) (cond (place_at ps n == i) (Some b) None)) so_many
        ∙ ap (λ n. option_or (found_at ps (take number books) i) (cond (n == i) (Some b) None)) (sym (so_far.places number (omega arith)))

    other : (t : Bool) → is_between lo hi (place_at left number) ≡ t → (i : ℕ) → is_between lo hi i ≡ not t → (place_at left number == i) ≡ false
    other true is i not_it = no_equal (place_at left number) i (λ same. let never : true ≡ false = sym is ∙ (ap (is_between lo hi) same ∙ not_it) in cc)
    other false is i not_it = no_equal (place_at left number) i (λ same. let never : false ≡ true = sym is ∙ (ap (is_between lo hi) same ∙ not_it) in cc)

    no_more : (o : Option X) → option_or o None ≡ o
    no_more None = refl
    no_more (Some x) = refl

    -- it goes
    pub kept-less : is_between lo hi (place_at left number) ≡ true → AreKeptTo ps books left fewer lo hi kept (number + 1)
    kept-less goes =
        record {
          before = let before = so_far.before in omega arith;
          few = omega arith;
          all = so_far.all;
          long = so_far.long;
          found = λ i. so_far.found i ∙ by i (is_between lo hi i) refl;
          rest = λ k d past. so_far.rest k d (omega arith);
          places = λ k past. so_far.places k (omega arith);
        }
      where
        by : (i : ℕ) (t : Bool) → is_between lo hi i ≡ t → cond t None (found_at ps (take number books) i) ≡ cond t None (found_at ps (take (number + 1) books) i)
        by i true in_it = refl
        by i false out =
            sym (old i
            ∙ ap (λ u. option_or (found_at ps (take number books) i) (cond u (Some b) None)) (other true goes i out)
            ∙ no_more (found_at ps (take number books) i))

    -- it stays, and moves behind those that do
    pub kept-more : is_between lo hi (place_at left number) ≡ false → (moved : List X) → SwappedAt fewer moved kept number → length moved ≡ length fewer
        → AreKeptTo ps books (slice_set left kept (place_at left number)) moved lo hi (kept + 1) (number + 1)
    kept-more stays moved swapped as_long =
        record {
          before = let before = so_far.before in omega arith;
          few = omega arith;
          all = as_long ∙ so_far.all;
          long = length-set left kept (place_at left number) ∙ so_far.long;
          found = λ i.
              ap (λ (xs : List X). found_at (slice_set left kept (place_at left number)) xs i) front
              ∙ (ap (λ n. found_at (slice_set left n (place_at left number)) (take kept fewer ++ (b ∷ [])) i) (sym in_front)
              ∙ found-put left (take kept fewer) b (place_at left number) i (let before = so_far.before in let long = so_far.long in omega (arith, in_front, before, within, room, long))
              ∙ ap (λ o. option_or o (cond (place_at left number == i) (Some b) None)) (so_far.found i)
              ∙ by i (is_between lo hi i) refl);
          rest = λ k d past. swapped.2 k d (after_kept k (omega arith)) (after_number k (omega arith)) ∙ so_far.rest k d (omega arith);
          places = λ k past. get_or-set_other left kept k (place_at left number) 0 (after_kept k (omega arith)) ∙ so_far.places k (omega arith);
        }
      where
        in_front : length (take kept fewer) ≡ kept
        in_front = length-take-le kept fewer (let before = so_far.before in let all = so_far.all in omega (arith, before, within, all))

        after_kept : (k : ℕ) → number < k → k ≢ kept
        after_kept k past same = let before = so_far.before in omega (arith, before, past, same)

        after_number : (k : ℕ) → number < k → k ≢ number
        after_number k past same = omega (arith, past, same)

        low : kept ≤ number
        low = so_far.before

        same_front : take kept moved ≡ take kept fewer
        same_front =
            ap (λ (xs : List X). take kept xs) (swapped.3 b)
            ∙ take-set-le kept (slice_set fewer kept (slice_index_or fewer number b)) number (slice_index_or fewer kept b) low
            ∙ take-set-le kept fewer kept (slice_index_or fewer number b) (omega arith)

        front : take (kept + 1) moved ≡ take kept fewer ++ (b ∷ [])
        front =
            take_more moved kept b (let all = so_far.all in omega (arith, low, within, all, as_long))
            ∙ (λ k. same_front k ++ ((swapped.0 b ∙ so_far.rest number b (omega arith) ∙ there.1 b) k ∷ []))

        by : (i : ℕ) (t : Bool) → is_between lo hi i ≡ t
            → option_or (cond t None (found_at ps (take number books) i)) (cond (place_at left number == i) (Some b) None) ≡ cond t None (found_at ps (take (number + 1) books) i)
        by i true in_it = ap (λ u. cond u (Some b) None) (other false stays i in_it)
        by i false out = sym (old i)

  pub kept-all : (left : List ℕ) (fewer : List X) (kept number : ℕ) → AreKeptTo ps books left fewer lo hi kept number → length books ≤ number
      → (i : ℕ) → found_at left (take kept fewer) i ≡ cond (is_between lo hi i) None (found_at ps books i)
  kept-all left fewer kept number are whole i =
      are.found i ∙ ap (λ (xs : List X). cond (is_between lo hi i) None (found_at ps xs i)) (take_all number books whole)

-- The search

-- of the places from a multiple of 16 on, the first that passes, if those before don't
pub in_lanes : (ps : List ℕ) (place start ahead : ℕ) → start + 16 ≤ length ps → start ≤ number_at ps place → ahead ≡ position_or_len (λ p. p == place) (chunk start 16 ps) → ahead < 16
    → start + ahead ≡ number_at ps place
in_lanes ps place start ahead room before counted below =
    sym (number_is ps place (start + ahead) (omega (arith, below, room))
    (eqb-true (place_at ps (start + ahead)) place (run_in_chunk_stops (λ p. p == place) ps start 16 ahead 0 room counted below))
    (λ k less. by k less (below_or k start)))
  where
    by : (k : ℕ) → k < start + ahead → (k < start) ⊎ (start ≤ k) → place_at ps k ≢ place
    by k less (inl first) = other_before ps place k (omega (arith, first, before))
    by k less (inr more) = eqb-false (place_at ps k) place (run_in_chunk_fails (λ p. p == place) ps start 16 ahead 0 room counted k more less)

pub past_lanes : (ps : List ℕ) (place start ahead : ℕ) → start + 16 ≤ length ps → start ≤ number_at ps place → ahead ≡ position_or_len (λ p. p == place) (chunk start 16 ps) → 16 ≤ ahead
    → start + 16 ≤ number_at ps place
past_lanes ps place start ahead room before counted all = number_past ps place (start + 16) room (λ k less. by k less (below_or k start))
  where
    by : (k : ℕ) → k < start + 16 → (k < start) ⊎ (start ≤ k) → place_at ps k ≢ place
    by k less (inl first) = other_before ps place k (omega (arith, first, before))
    by k less (inr more) = eqb-false (place_at ps k) place (run_in_chunk_fails (λ p. p == place) ps start 16 ahead 0 room counted k more (omega (arith, less, all)))

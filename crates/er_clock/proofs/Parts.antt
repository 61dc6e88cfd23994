-- How the counts of parts, of a row and of a clock go through calls.
use Rattle.std.proofs.Common.{◌≡◌, ◌∙◌, ℕ, zero, suc, ◌+◌, ◌-◌, ◌<◌, ◌≤◌, ◌/◌, ◌%◌, max, Bool, true, false, ◌&&◌, cond, ◌==◌, nat_eq, nat_le, nat_lt, List, [], ◌∷◌, ◌++◌, length, get_or, set, Option, Some, None, unwrap_or, option_map, Bor, Result, Ok, Err, IfOk, refl, ap, sym, arith}
use Rattle.std.proofs.lemmas.Bool.{eqb-true, eqb-false, leb-true, and_parts}
use Rattle.std.proofs.lemmas.Bool.Decides.{nat_tests}
use Rattle.er_order.specs.ClockLists.{merged, ticked}
use Rattle.er_order.proofs.ClockLists.{get-merged, tick-runs}
use Rattle.er_clock.specs.Inner.Merging.{AreWithin}
use Rattle.er_clock.specs.Clock.{count_in_part, count_in_row, count_in_block, count_in, nothing, Joins, Ticks}

-- a place that is there has one value, whatever stands for those past the end
default_to : {X : Type 0} (xs : List X) (i : ℕ) (d e : X) → i < length xs → get_or xs i d ≡ get_or xs i e
default_to [] i d e within = absurd (omega arith)
default_to (x ∷ xs) zero d e within = refl
default_to (x ∷ xs) (suc i) d e within = default_to xs i d e (omega arith)

pub past_end : {X : Type 0} (xs : List X) (i : ℕ) (d : X) → length xs ≤ i → get_or xs i d ≡ d
past_end [] i d past = refl
past_end (x ∷ xs) zero d past = absurd (omega arith)
past_end (x ∷ xs) (suc i) d past = past_end xs i d (omega arith)

-- the place that comes next in a test whether one list covers another
pub one_more_covered : (x y p : ℕ) (b : Bool) (xs ys : List ℕ) → x ≡ get_or xs p x → y ≡ get_or ys p y → p < length xs → p < length ys →
    (b ≡ true → (u : ℕ) → u < p → get_or xs u 0 ≤ get_or ys u 0) → (b && nat_le x y) ≡ true → (u : ℕ) → u < p + 1 → get_or xs u 0 ≤ get_or ys u 0
one_more_covered x y p b xs ys one two low high before all u next = by (nat_eq u p) refl
  where
    both : (b ≡ true) × (nat_le x y ≡ true)
    both = and_parts b (nat_le x y) all

    by : (same : Bool) → nat_eq u p ≡ same → get_or xs u 0 ≤ get_or ys u 0
    by true here =
        let at : u ≡ p = eqb-true u p here in
        let first : x ≡ get_or xs p 0 = one ∙ default_to xs p x 0 low in
        let second : y ≡ get_or ys p 0 = two ∙ default_to ys p y 0 high in
        let order = leb-true x y both.1 in
        rw at (let done : get_or xs p 0 ≤ get_or ys p 0 = omega (arith, first, second, order) in done)
    by false there =
        let apart = eqb-false u p there in
        before both.0 u (less apart)
      where
        less : (u ≡ p → ⊥) → u < p
        less apart = omega (arith, apart, next)

pub past_covered : (p : ℕ) (xs ys : List ℕ) → length xs ≤ p → ((u : ℕ) → u < p → get_or xs u 0 ≤ get_or ys u 0) → (u : ℕ) → get_or xs u 0 ≤ get_or ys u 0
past_covered p xs ys all covered u = by (nat_le p u) refl
  where
    by : (b : Bool) → nat_le p u ≡ b → get_or xs u 0 ≤ get_or ys u 0
    by true past =
        let low = leb-true p u past in
        let none : get_or xs u 0 ≡ 0 = past_end xs u 0 (omega (arith, low, all)) in
        omega (arith, none)
    by false before = covered u (Rattle.std.proofs.lemmas.Bool.leb-false p u before)

-- the place that comes next in a search for the least and the greatest count
pub one_more_within : (x p : ℕ) (low high least most : ℕ) (xs : List ℕ) → x ≡ get_or xs p x → p < length xs → least ≤ low → least ≤ x → high ≤ most → x ≤ most →
    ((u : ℕ) → u < p → (low ≤ get_or xs u 0) × (get_or xs u 0 ≤ high)) → (u : ℕ) → u < p + 1 → (least ≤ get_or xs u 0) × (get_or xs u 0 ≤ most)
one_more_within x p low high least most xs is within down here up over before u next = by (nat_eq u p) refl
  where
    by : (same : Bool) → nat_eq u p ≡ same → (least ≤ get_or xs u 0) × (get_or xs u 0 ≤ most)
    by true same =
        let at : u ≡ p = eqb-true u p same in
        let count : x ≡ get_or xs p 0 = is ∙ default_to xs p x 0 within in
        rw at (omega (arith, count, here), omega (arith, count, over))
    by false other =
        let apart = eqb-false u p other in
        let was = before u (less apart) in
        let low_was = was.0 in
        let high_was = was.1 in
        (omega (arith, low_was, down), omega (arith, high_was, up))
      where
        less : (u ≡ p → ⊥) → u < p
        less apart = omega (arith, apart, next)

-- the search has gone over all
pub all_within : (p low high : ℕ) (xs : List ℕ) → length xs ≤ p → ((u : ℕ) → u < p → (low ≤ get_or xs u 0) × (get_or xs u 0 ≤ high)) → AreWithin low high xs
all_within p low high xs all within = (λ u here. (within u (omega (arith, all, here))).0, λ u. by u (nat_le p u) refl)
  where
    by : (u : ℕ) (b : Bool) → nat_le p u ≡ b → get_or xs u 0 ≤ high
    by u true past =
        let low_past = leb-true p u past in
        let none : get_or xs u 0 ≡ 0 = past_end xs u 0 (omega (arith, low_past, all)) in
        omega (arith, none)
    by u false before = (within u (Rattle.std.proofs.lemmas.Bool.leb-false p u before)).1

pub get-ticked : (t u : ℕ) (xs : List ℕ) → get_or (ticked t xs) u 0 ≡ get_or xs u 0 + cond (t == u) 1 0
get-ticked t u xs = tick-runs t u (get_or xs u 0) xs true (t == u) refl refl ∙ by (t == u)
  where
    by : (b : Bool) → get_or xs u 0 + cond (b && true) 1 0 ≡ get_or xs u 0 + cond b 1 0
    by true = refl
    by false = refl

-- a part that is there has its count
pub part_there : {P : Type 0} (counts : P → ℕ → ℕ) (xs : List P) (i o : ℕ) (p : P) → i < length xs → p ≡ get_or xs i p → count_in_part counts xs i o ≡ counts p o
part_there counts [] i o p within is = absurd (omega arith)
part_there counts (x ∷ xs) zero o p within is = ap (λ q. counts q o) (sym is)
part_there counts (x ∷ xs) (suc i) o p within is = part_there counts xs i o p (omega arith) is

-- a part past the end has none
pub part_past : {P : Type 0} (counts : P → ℕ → ℕ) (xs : List P) (i o : ℕ) → length xs ≤ i → count_in_part counts xs i o ≡ 0
part_past counts [] i o past = refl
part_past counts (x ∷ xs) zero o past = absurd (omega arith)
part_past counts (x ∷ xs) (suc i) o past = part_past counts xs i o (omega arith)

-- and a part that stands for those past the end has none either
pub part_or : {P : Type 0} (counts : P → ℕ → ℕ) (xs : List P) (i o : ℕ) (d : P) → counts d o ≡ 0 → counts (get_or xs i d) o ≡ count_in_part counts xs i o
part_or counts [] i o d none = none
part_or counts (x ∷ xs) zero o d none = refl
part_or counts (x ∷ xs) (suc i) o d none = part_or counts xs i o d none

-- what is read of a part, or of the one that stands for it
pub read_or : {P : Type 0} (o : Option (Bor P)) (d : Bor P) → (unwrap_or o d).now ≡ unwrap_or (option_map (λ p. p.now) o) d.now
read_or None d = refl
read_or (Some p) d = refl

-- one part more that covers another
pub one_more_part : {P : Type 0} (counts : P → ℕ → ℕ) (p : ℕ) (x y : P) (xs ys : List P) → p < length xs → p < length ys → x ≡ get_or xs p x → y ≡ get_or ys p y →
    ((o : ℕ) → counts y o ≤ counts x o) → ((b o : ℕ) → b < p → count_in_part counts ys b o ≤ count_in_part counts xs b o) →
    (b o : ℕ) → b < p + 1 → count_in_part counts ys b o ≤ count_in_part counts xs b o
one_more_part counts p x y xs ys low high one two here before b o next = by (nat_eq b p) refl
  where
    by : (same : Bool) → nat_eq b p ≡ same → count_in_part counts ys b o ≤ count_in_part counts xs b o
    by true same =
        let at : b ≡ p = eqb-true b p same in
        let first = part_there counts xs p o x low one in
        let second = part_there counts ys p o y high two in
        let order = here o in
        rw at (let done : count_in_part counts ys p o ≤ count_in_part counts xs p o = omega (arith, first, second, order) in done)
    by false apart = let there = eqb-false b p apart in before b o (less there)
      where
        less : (b ≡ p → ⊥) → b < p
        less there = omega (arith, there, next)

pub pushed_low : {P : Type 0} (counts : P → ℕ → ℕ) (xs : List P) (y : P) (b o : ℕ) → b < length xs → count_in_part counts (xs ++ y ∷ []) b o ≡ count_in_part counts xs b o
pushed_low counts [] y b o low = absurd (omega arith)
pushed_low counts (x ∷ xs) y zero o low = refl
pushed_low counts (x ∷ xs) y (suc b) o low = pushed_low counts xs y b o (omega arith)

pub pushed_at : {P : Type 0} (counts : P → ℕ → ℕ) (xs : List P) (y : P) (o : ℕ) → count_in_part counts (xs ++ y ∷ []) (length xs) o ≡ counts y o
pushed_at counts [] y o = refl
pushed_at counts (x ∷ xs) y o = pushed_at counts xs y o

pub pushed_length : {P : Type 0} (xs : List P) (y : P) → length (xs ++ y ∷ []) ≡ length xs + 1
pushed_length [] y = refl
pushed_length (x ∷ xs) y = let rest = pushed_length xs y in omega (arith, rest)

-- one part more of a join
pub one_more_joined : {P : Type 0} (counts : P → ℕ → ℕ) (p : ℕ) (r s t : List P) (y : P) → length t ≡ p →
    ((b o : ℕ) → b < p → count_in_part counts t b o ≡ max (count_in_part counts r b o) (count_in_part counts s b o)) →
    ((o : ℕ) → counts y o ≡ max (count_in_part counts r p o) (count_in_part counts s p o)) →
    (b o : ℕ) → b < p + 1 → count_in_part counts (t ++ y ∷ []) b o ≡ max (count_in_part counts r b o) (count_in_part counts s b o)
one_more_joined counts p r s t y len before here b o next = by (nat_eq b p) refl
  where
    by : (same : Bool) → nat_eq b p ≡ same → count_in_part counts (t ++ y ∷ []) b o ≡ max (count_in_part counts r b o) (count_in_part counts s b o)
    by true same =
        let at : b ≡ p = eqb-true b p same in
        let end : b ≡ length t = at ∙ sym len in
        ap (λ i. count_in_part counts (t ++ y ∷ []) i o) end ∙ pushed_at counts t y o ∙ here o ∙ ap (λ i. max (count_in_part counts r i o) (count_in_part counts s i o)) (sym at)
    by false apart =
        let there = eqb-false b p apart in
        pushed_low counts t y b o (less there) ∙ before b o (low there)
      where
        low : (b ≡ p → ⊥) → b < p
        low there = omega (arith, there, next)

        less : (b ≡ p → ⊥) → b < length t
        less there = omega (arith, there, next, len)

pub all_joined : {P : Type 0} (counts : P → ℕ → ℕ) (p : ℕ) (r s t : List P) → length t ≡ p → length r ≤ p → length s ≤ p →
    ((b o : ℕ) → b < p → count_in_part counts t b o ≡ max (count_in_part counts r b o) (count_in_part counts s b o)) →
    (b o : ℕ) → count_in_part counts t b o ≡ max (count_in_part counts r b o) (count_in_part counts s b o)
all_joined counts p r s t len one two below b o = by (nat_le p b) refl
  where
    by : (past : Bool) → nat_le p b ≡ past → count_in_part counts t b o ≡ max (count_in_part counts r b o) (count_in_part counts s b o)
    by true past =
        let high = leb-true p b past in
        let x = part_past counts r b o (omega (arith, high, one)) in
        let y = part_past counts s b o (omega (arith, high, two)) in
        let z = part_past counts t b o (omega (arith, high, len)) in
        omega (arith, x, y, z)
    by false before = below b o (Rattle.std.proofs.lemmas.Bool.leb-false p b before)

set_here : {P : Type 0} (counts : P → ℕ → ℕ) (xs : List P) (i o : ℕ) (y : P) → i < length xs → count_in_part counts (set xs i y) i o ≡ counts y o
set_here counts [] i o y within = absurd (omega arith)
set_here counts (x ∷ xs) zero o y within = refl
set_here counts (x ∷ xs) (suc i) o y within = set_here counts xs i o y (omega arith)

set_there : {P : Type 0} (counts : P → ℕ → ℕ) (xs : List P) (i b o : ℕ) (y : P) → (i ≡ b → ⊥) → count_in_part counts (set xs i y) b o ≡ count_in_part counts xs b o
set_there counts [] i b o y apart = refl
set_there counts (x ∷ xs) zero zero o y apart = absurd (apart refl)
set_there counts (x ∷ xs) zero (suc b) o y apart = refl
set_there counts (x ∷ xs) (suc i) zero o y apart = refl
set_there counts (x ∷ xs) (suc i) (suc b) o y apart = set_there counts xs i b o y (λ same. apart (omega (arith, same)))

-- a tick in one part of a copy
pub ticked_part : {P : Type 0} (counts : P → ℕ → ℕ) (p o : ℕ) (was y : P) (r s : List P) → ((b i : ℕ) → count_in_part counts s b i ≡ count_in_part counts r b i) →
    p < length s → was ≡ get_or s p was → ((i : ℕ) → counts y i ≡ counts was i + cond (o == i) 1 0) →
    (b i : ℕ) → count_in_part counts (set s p y) b i ≡ count_in_part counts r b i + cond (p == b && o == i) 1 0
ticked_part counts p o was y r s same within read is b i = rest (p == b) refl
  where
    plus_zero : (x : ℕ) → x ≡ x + 0
    plus_zero x = omega arith

    rest : (at : Bool) → (p == b) ≡ at → count_in_part counts (set s p y) b i ≡ count_in_part counts r b i + cond (at && o == i) 1 0
    rest true here =
        let at : p ≡ b = eqb-true p b here in
        rw (← at) (set_here counts s p i y within ∙ is i ∙ ap (λ k. k + cond (o == i) 1 0) (sym (part_there counts s p i was within read) ∙ same p i))
    rest false apart = set_there counts s p b i y (eqb-false p b apart) ∙ same b i ∙ plus_zero (count_in_part counts r b i)

-- two numbers are one if their quotients and their rests are
pub same_place : (w n u : ℕ) → 0 < w → (n / w == u / w && n % w == u % w) ≡ (n == u)
same_place w n u wide = grind (arith, nat_tests)

-- a list of no counts
pub none_left : (xs : List ℕ) → length xs ≡ 0 → xs ≡ []
none_left [] none = refl
none_left (x ∷ xs) none = absurd (omega arith)

abbrev Rows : Type 0
Rows = List (List (List ℕ))

-- the count of a place of the rows
abbrev pub row_count : Rows → ℕ → ℕ
row_count = count_in_row (count_in_row count_in_block 128) 4096

-- a clock that holds nothing
pub counts_nothing : (u : ℕ) → count_in nothing u ≡ 0
unfolding count_in
counts_nothing u = by (nat_lt u 128)
  where
    count_if : Bool → ℕ
    count_if low = cond low 0 0

    by : (low : Bool) → count_if low ≡ 0
    by true = refl
    by false = refl

-- a join of the first counts and of the others is one of all
pub joined_clock : (f g h : List ℕ) (r s t : Rows) → h ≡ merged f g → ((u : ℕ) → row_count t u ≡ max (row_count r u) (row_count s u)) → Joins (f, r) (g, s) (h, t)
unfolding count_in
joined_clock f g h r s t first rest u = by (nat_lt u 128)
  where
    by : (low : Bool) → cond low (get_or h u 0) (row_count t (u - 128)) ≡ max (cond low (get_or f u 0) (row_count r (u - 128))) (cond low (get_or g u 0) (row_count s (u - 128)))
    by true = ap (λ xs. get_or xs u 0) first ∙ get-merged f g u
    by false = rest (u - 128)

-- the other clock has as great a count of each thread
pub joined_covered : (f g h : List ℕ) (r s t : Rows) → h ≡ merged f g → ((u : ℕ) → count_in (f, r) u ≤ count_in (g, s) u) → ((u : ℕ) → row_count t u ≡ row_count s u) → Joins (f, r) (g, s) (h, t)
unfolding count_in
joined_covered f g h r s t first covered same u = by (nat_lt u 128) (covered u)
  where
    by : (low : Bool) → cond low (get_or f u 0) (row_count r (u - 128)) ≤ cond low (get_or g u 0) (row_count s (u - 128)) →
        cond low (get_or h u 0) (row_count t (u - 128)) ≡ max (cond low (get_or f u 0) (row_count r (u - 128))) (cond low (get_or g u 0) (row_count s (u - 128)))
    by true less = ap (λ xs. get_or xs u 0) first ∙ get-merged f g u
    by false less = let here = same (u - 128) in omega (arith, here, less)

-- the other clock has no rows
pub joined_none : (r s : Rows) → s ≡ [] → (u : ℕ) → row_count r u ≡ max (row_count r u) (row_count s u)
joined_none r s none u =
    let there : row_count s u ≡ 0 = ap (λ rows. row_count rows u) none in
    omega (arith, there)

-- and so is a tick of one of them
pub ticked_low : (n : ℕ) (f h : List ℕ) (r : Rows) → n < 128 → h ≡ ticked n f → Ticks n (f, r) (h, r)
unfolding count_in
ticked_low n f h r small is u = by (nat_lt u 128) refl
  where
    by : (low : Bool) → nat_lt u 128 ≡ low → cond low (get_or h u 0) (row_count r (u - 128)) ≡ cond low (get_or f u 0) (row_count r (u - 128)) + cond (n == u) 1 0
    by true low = ap (λ xs. get_or xs u 0) is ∙ get-ticked n u f
    by false high = let apart : (n == u) ≡ false = grind (arith, nat_tests) in rw apart (omega arith)

pub ticked_high : (n : ℕ) (f : List ℕ) (r t : Rows) → 128 ≤ n → ((u : ℕ) → row_count t u ≡ row_count r u + cond (n - 128 == u) 1 0) → Ticks n (f, r) (f, t)
unfolding count_in
ticked_high n f r t large is u = by (nat_lt u 128) refl
  where
    by : (low : Bool) → nat_lt u 128 ≡ low → cond low (get_or f u 0) (row_count t (u - 128)) ≡ cond low (get_or f u 0) (row_count r (u - 128)) + cond (n == u) 1 0
    by true low = let apart : (n == u) ≡ false = grind (arith, nat_tests) in rw apart (omega arith)
    by false high = let same : (n - 128 == u - 128) ≡ (n == u) = grind (arith, nat_tests) in is (u - 128) ∙ ap (λ d. row_count r (u - 128) + cond d 1 0) same

-- what follows from a fact about what a call returns
pub if_ok : {T E : Type 0} (r : Result T E) (P Q : T → Type 0) → IfOk r P → ((v : T) → P v → Q v) → IfOk r Q
if_ok (Ok v) P Q p f = f v p
if_ok (Err e) P Q p f = tt

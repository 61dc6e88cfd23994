-- The first line of a text, found by the place of its LF.
use Rattle.std.proofs.Common.{◌≡◌, ℕ, suc, ◌+◌, ◌<◌, ◌≤◌, Bool, true, false, List, [], ◌∷◌, ◌++◌, length, take, drop, refl, ap, arith}
use Rattle.std.specs.List.{position_or_len}
use Rattle.er_lines.specs.Lines.{Line, is_end, lines_of, onto_line}

whole_step : (x : ℕ) (xs ys : List ℕ) (b : Bool) → is_end x ≡ b
    → (position_or_len is_end xs < length xs → lines_of (xs ++ ys) ≡ record { bytes = take (position_or_len is_end xs) xs; ended = true } ∷ lines_of (drop (position_or_len is_end xs + 1) xs ++ ys))
    → position_or_len is_end (x ∷ xs) < length (x ∷ xs)
    → lines_of (x ∷ xs ++ ys) ≡ record { bytes = take (position_or_len is_end (x ∷ xs)) (x ∷ xs); ended = true } ∷ lines_of (drop (position_or_len is_end (x ∷ xs) + 1) (x ∷ xs) ++ ys)
whole_step x xs ys true e more lt = rw e refl
whole_step x xs ys false e more lt =
    let k = position_or_len is_end xs in
    let one : 1 + k ≡ suc k = omega arith in
    let two : 1 + k + 1 ≡ suc (k + 1) = omega arith in
    let inner : k < length xs = omega (arith, rw e at lt) in
    rw (e, two, one) (ap (onto_line x) (more inner))

pub lines_whole : (xs ys : List ℕ) → position_or_len is_end xs < length xs
    → lines_of (xs ++ ys) ≡ record { bytes = take (position_or_len is_end xs) xs; ended = true } ∷ lines_of (drop (position_or_len is_end xs + 1) xs ++ ys)
lines_whole [] ys lt = absurd (omega arith)
lines_whole (x ∷ xs) ys lt = whole_step x xs ys (is_end x) refl (lines_whole xs ys) lt

last_step : (x : ℕ) (xs : List ℕ) (b : Bool) → is_end x ≡ b
    → (0 < length xs → position_or_len is_end xs ≡ length xs → lines_of xs ≡ record { bytes = xs; ended = false } ∷ [])
    → position_or_len is_end (x ∷ xs) ≡ length (x ∷ xs) → lines_of (x ∷ xs) ≡ record { bytes = x ∷ xs; ended = false } ∷ []
last_step x xs true e more all = absurd (omega (arith, rw e at all))
last_step x [] false e more all = rw e refl
last_step x (y ∷ ys) false e more all =
    let inner : position_or_len is_end (y ∷ ys) ≡ length (y ∷ ys) = omega (arith, rw e at all) in
    rw e (ap (onto_line x) (more (omega arith) inner))

pub lines_last : (xs : List ℕ) → 0 < length xs → position_or_len is_end xs ≡ length xs → lines_of xs ≡ record { bytes = xs; ended = false } ∷ []
lines_last [] some all = absurd (omega arith)
lines_last (x ∷ xs) some all = last_step x xs (is_end x) refl (lines_last xs) all

-- a text whose first n bytes have no LF begins with a line of no fewer
abbrev pub BeginsLong : ℕ → List Line → Type 0
BeginsLong n [] = n ≡ 0
BeginsLong n (line ∷ lines) = n ≤ length line.bytes

onto_long : (n x : ℕ) (lines : List Line) → BeginsLong n lines → BeginsLong (1 + n) (onto_line x lines)
onto_long n x [] long = omega arith
onto_long n x (line ∷ lines) long = omega arith

long_step : (x : ℕ) (xs ys : List ℕ) (b : Bool) → is_end x ≡ b → BeginsLong (position_or_len is_end xs) (lines_of (xs ++ ys))
    → BeginsLong (position_or_len is_end (x ∷ xs)) (lines_of (x ∷ xs ++ ys))
long_step x xs ys true e more = rw e (omega arith)
long_step x xs ys false e more = rw e (onto_long (position_or_len is_end xs) x (lines_of (xs ++ ys)) more)

none_long : (lines : List Line) → BeginsLong 0 lines
none_long [] = refl
none_long (line ∷ lines) = omega arith

pub lines_long : (xs ys : List ℕ) → BeginsLong (position_or_len is_end xs) (lines_of (xs ++ ys))
lines_long [] ys = none_long (lines_of ys)
lines_long (x ∷ xs) ys = long_step x xs ys (is_end x) refl (lines_long xs ys)

-- The first lines of a text, taken piece by piece.
use Rattle.std.proofs.Common.{◌≡◌, ℕ, zero, suc, ◌+◌, ◌-◌, ◌==◌, ◌<◌, ◌≤◌, Bool, true, false, cond, if◌then◌else◌, List, [], ◌∷◌, ◌++◌, length, drop, take, count_by, ap, sym, ◌∙◌, refl, arith}
use Rattle.std.proofs.lemmas.Bool.Decides.{nat_tests}
use Rattle.std.proofs.lemmas.List.{take-append-drop}
use Rattle.std.proofs.lemmas.List.Sums.{sum_by-append, sum_by-cons}
use Rattle.er_lines.specs.Lines.{is_end}
use Rattle.er_lines.specs.Prefix.{first_lines}
use Rattle.er_lines.specs.Inner.Prefixes.{lines_behind}

-- how many lines are left behind one byte
abbrev behind : ℕ → Bool → ℕ
behind lines feed = if feed then lines - 1 else lines

count_step : (byte : ℕ) (bytes : List ℕ) → count_by is_end (byte ∷ bytes) ≡ cond (is_end byte) 1 0 + count_by is_end bytes
count_step byte bytes = sum_by-cons (λ x. cond (is_end x) 1 0) byte bytes

-- of no lines there are no bytes
pub no_lines : (lines : ℕ) (bytes : List ℕ) → lines ≡ 0 → first_lines lines bytes ≡ []
no_lines lines [] none = refl
no_lines lines (byte ∷ bytes) none = let same : (lines == 0) ≡ true = grind (arith, nat_tests) in rw same refl

-- a line that is left takes the next byte
some_lines : (lines byte : ℕ) (bytes : List ℕ) → 0 < lines → first_lines lines (byte ∷ bytes) ≡ byte ∷ first_lines (behind lines (is_end byte)) bytes
some_lines lines byte bytes some = let other : (lines == 0) ≡ false = grind (arith, nat_tests) in rw other refl

left_behind : (lines more : ℕ) (feed : Bool) → behind lines feed - more ≡ lines - (cond feed 1 0 + more)
left_behind lines more true = omega arith
left_behind lines more false = omega arith

-- the lines that are left behind a byte and the bytes after it
behind_step : (lines byte : ℕ) (bytes : List ℕ) → lines_behind bytes (behind lines (is_end byte)) ≡ lines_behind (byte ∷ bytes) lines
behind_step lines byte bytes = left_behind lines (count_by is_end bytes) (is_end byte) ∙ ap (λ (count : ℕ). lines - count) (sym (count_step byte bytes))

none_behind : (lines : ℕ) (bytes : List ℕ) → lines ≡ 0 → lines_behind bytes lines ≡ 0
none_behind lines bytes none = omega arith

-- the first lines of two pieces are those of the first piece, and then those that are left of the second
pub first_lines_append : (lines : ℕ) (front back : List ℕ) → first_lines lines (front ++ back) ≡ first_lines lines front ++ first_lines (lines_behind front lines) back
first_lines_append lines [] back = let same : lines_behind [] lines ≡ lines = omega arith in ap (λ (n : ℕ). first_lines n back) (sym same)
first_lines_append zero (byte ∷ front) back = sym (no_lines (lines_behind (byte ∷ front) 0) back (none_behind 0 (byte ∷ front) refl))
first_lines_append (suc lines) (byte ∷ front) back =
    let some : 0 < suc lines = omega arith in
    let more = first_lines_append (behind (suc lines) (is_end byte)) front back in
    rw (some_lines (suc lines) byte (front ++ back) some, some_lines (suc lines) byte front some)
    (ap (λ (xs : List ℕ). byte ∷ xs) (more ∙ ap (λ (n : ℕ). first_lines (behind (suc lines) (is_end byte)) front ++ first_lines n back) (behind_step (suc lines) byte front)))

-- they are a beginning of the piece
pub first_lines_begin : (lines : ℕ) (bytes : List ℕ) → take (length (first_lines lines bytes)) bytes ≡ first_lines lines bytes
first_lines_begin lines [] = refl
first_lines_begin zero (byte ∷ bytes) = refl
first_lines_begin (suc lines) (byte ∷ bytes) =
    let some : 0 < suc lines = omega arith in
    rw (some_lines (suc lines) byte bytes some) (ap (λ (xs : List ℕ). byte ∷ xs) (first_lines_begin (behind (suc lines) (is_end byte)) bytes))

pub first_lines_within : (lines : ℕ) (bytes : List ℕ) → length (first_lines lines bytes) ≤ length bytes
first_lines_within lines [] = omega arith
first_lines_within zero (byte ∷ bytes) = omega arith
first_lines_within (suc lines) (byte ∷ bytes) =
    let some : 0 < suc lines = omega arith in
    let more = first_lines_within (behind (suc lines) (is_end byte)) bytes in
    rw (some_lines (suc lines) byte bytes some) (omega arith)

-- a line that is left has a byte of each piece that has one
pub first_lines_some : (lines : ℕ) (bytes : List ℕ) → 0 < lines → length (first_lines lines bytes) ≡ 0 → bytes ≡ []
first_lines_some lines [] some none = refl
first_lines_some lines (byte ∷ bytes) some none = absurd (omega (arith, rw (some_lines lines byte bytes some) at none))

-- the line feeds of a beginning are among them
pub feeds_within : (n : ℕ) (bytes : List ℕ) → count_by is_end (take n bytes) ≤ count_by is_end bytes
feeds_within n bytes =
    let all : count_by is_end (take n bytes ++ drop n bytes) ≡ count_by is_end (take n bytes) + count_by is_end (drop n bytes) = sum_by-append (λ x. cond (is_end x) 1 0) (take n bytes) (drop n bytes) in
    omega (arith, all, ap (λ (t : List ℕ). count_by is_end t) (take-append-drop n bytes))

-- The line that stands in front of the bytes that were read ahead is the next line of the text.
use Rattle.std.proofs.Common.{◌≡◌, ℕ, ◌+◌, ◌<◌, ◌≤◌, true, false, cond, List, [], ◌∷◌, ◌++◌, length, take, drop, nat_lt, Option, Some, None, Result, Ok, Err, refl, sym, ap, ◌∙◌, arith, length-take-le}
use Rattle.std.specs.List.{position_or_len}
use Rattle.std.specs.Io.KnownBytes.{Keeps, prepend_known, IsAtEnd}
use Rattle.std.proofs.lemmas.List.{append-nil, nil_from_length, take_all, drop_all}
use Rattle.std.proofs.lemmas.Bool.Decides.{nat_tests}
use Rattle.er_lines.specs.declared.faults.TextKind.TheVariants.{LineTooLong, TextTooLong}
use Rattle.er_lines.specs.declared.faults.ReadFault.{ReadFault}
use Rattle.er_lines.specs.declared.lines.FrontLine.{FrontLine}
use Rattle.er_lines.specs.Places.{Place}
use Rattle.er_lines.specs.Lines.{Line, Placed, placed_from, is_end, lines_of, width}
use Rattle.er_lines.specs.Lending.{is_ended, lines_from, lines_left, front_width, front_line, past, limit_fault, LineThen, IsOver, IsNothing, IsWithin, Finds}
use Rattle.er_lines.proofs.LineLemmas.{lines_whole, lines_last, lines_long, BeginsLong}

-- lines that begin with this one, of this width
split : (number start w : ℕ) (lines rest : List Line) (line : Line) → lines ≡ line ∷ rest → width line ≡ w
    → placed_from number start lines ≡ record { number = number; start = start; line = line } ∷ placed_from (number + 1) (start + w) rest
split number start w lines rest line e size = ap (placed_from number start) e ∙ ap (λ n. record { number = number; start = start; line = line } ∷ placed_from (number + 1) (start + n) rest) size

pub whole_first : (at : Place) (old known : Option (List ℕ)) (n : ℕ) → Keeps old (prepend_known at.ahead known) → n ≡ position_or_len is_end at.ahead → n < length at.ahead
    → LineThen (lines_from at.number at.start old) (front_line at (record { len = n; breaks = 1 })) (lines_left (past at (record { len = n; breaks = 1 })) known)
whole_first at None known n keeps place within = tt
whole_first at (Some text) None n keeps place within = keeps
whole_first at (Some text) (Some ys) n keeps place within =
    let xs = at.ahead in
    let inner : position_or_len is_end xs < length xs = omega (arith, place, within) in
    let lines : lines_of text ≡ record { bytes = take n xs; ended = true } ∷ lines_of (drop (n + 1) xs ++ ys) = ap lines_of (sym keeps) ∙ (rw place (lines_whole xs ys inner)) in
    let fits : n ≤ length xs = omega (arith, within) in
    let size : width (record { bytes = take n xs; ended = true }) ≡ n + 1 = ap (λ k. k + 1) (length-take-le n xs fits) in
    split at.number at.start (n + 1) (lines_of text) (lines_of (drop (n + 1) xs ++ ys)) (record { bytes = take n xs; ended = true }) lines size

-- the bytes at the end, which no LF follows
at_end : (text xs ys : List ℕ) → xs ++ ys ≡ text → IsAtEnd (Some ys) → xs ≡ text
at_end text xs ys keeps end = sym (append-nil xs) ∙ ap (λ (t : List ℕ). xs ++ t) (sym end) ∙ keeps

pub last_first : (at : Place) (old known : Option (List ℕ)) (n : ℕ) → Keeps old (prepend_known at.ahead known) → IsAtEnd known → n ≡ position_or_len is_end at.ahead
    → n ≡ length at.ahead → 0 < n
    → LineThen (lines_from at.number at.start old) (front_line at (record { len = n; breaks = 0 })) (lines_left (past at (record { len = n; breaks = 0 })) known)
last_first at None known n keeps end place all some = tt
last_first at (Some text) None n keeps end place all some = keeps
last_first at (Some text) (Some ys) n keeps end place all some =
    let xs = at.ahead in
    let whole : take n xs ≡ xs = take_all n xs (omega (arith, all)) in
    let none : drop (n + 0) xs ++ ys ≡ [] = ap (λ (t : List ℕ). t ++ ys) (drop_all (n + 0) xs (omega (arith, all))) ∙ end in
    let more : 0 < length xs = omega (arith, all, some) in
    let lines : lines_of text ≡ record { bytes = take n xs; ended = false } ∷ lines_of (drop (n + 0) xs ++ ys) =
    ap lines_of (sym (at_end text xs ys keeps end)) ∙ lines_last xs more (sym place ∙ all)
    ∙ ap (λ (b : List ℕ). record { bytes = b; ended = false } ∷ []) (sym whole) ∙ ap (λ (b : List ℕ). record { bytes = take n xs; ended = false } ∷ lines_of b) (sym none) in
    let size : width (record { bytes = take n xs; ended = false }) ≡ n + 0 = ap (λ (b : List ℕ). length b + 0) whole ∙ ap (λ k. k + 0) (sym all) in
    split at.number at.start (n + 0) (lines_of text) (lines_of (drop (n + 0) xs ++ ys)) (record { bytes = take n xs; ended = false }) lines size

pub nothing_first : (at : Place) (old known : Option (List ℕ)) → Keeps old (prepend_known at.ahead known) → IsAtEnd known → 0 ≡ length at.ahead
    → IsNothing (lines_from at.number at.start old)
nothing_first at None known keeps end none = tt
nothing_first at (Some text) None keeps end none = absurd keeps
nothing_first at (Some text) (Some ys) keeps end none =
    let nothing : text ≡ [] = sym (at_end text at.ahead ys keeps end) ∙ nil_from_length at.ahead (sym none) in
    ap (λ (t : List ℕ). placed_from at.number at.start (lines_of t)) nothing

-- a line of more bytes than a line has
long_front : (limit number start n : ℕ) (lines : List Line) → BeginsLong n lines → 1024 < n
    → IsOver limit (Some (placed_from number start lines)) (record { line = number; kind = LineTooLong })
long_front limit number start n [] long many = absurd (omega arith)
long_front limit number start n (line ∷ lines) long many =
    let test : nat_lt 1024 (length line.bytes) ≡ true = grind (arith, nat_tests, long, many) in
    (record { number = number; start = start; line = line }, placed_from (number + 1) (start + width line) lines, refl, rw test refl, refl)

pub long_first : (at : Place) (old known : Option (List ℕ)) → Keeps old (prepend_known at.ahead known) → 1024 < position_or_len is_end at.ahead
    → IsOver at.limit (lines_from at.number at.start old) (record { line = at.number; kind = LineTooLong })
long_first at None known keeps many = tt
long_first at (Some text) None keeps many = absurd keeps
long_first at (Some text) (Some ys) keeps many =
    rw (← keeps) (long_front at.limit at.number at.start (position_or_len is_end at.ahead) (lines_of (at.ahead ++ ys)) (lines_long at.ahead ys) many)

short_line : (at : Place) (front : FrontLine) → front.len ≤ 1024 → front.len ≤ length at.ahead → nat_lt 1024 (length (take front.len at.ahead)) ≡ false
short_line at front short fits = let size = length-take-le front.len at.ahead fits in grind (arith, nat_tests, short, size)

line_width : (at : Place) (front : FrontLine) → front.len ≤ length at.ahead → width (front_line at front).line ≡ front_width front
line_width at front fits = ap (λ k. k + cond (is_ended front) 1 0) (length-take-le front.len at.ahead fits)

over_limit : (at : Place) (front : FrontLine) (left rest : Option (List Placed)) → front.len ≤ 1024 → front.len ≤ length at.ahead → at.limit < at.start + front_width front
    → LineThen left (front_line at front) rest → IsOver at.limit left (record { line = at.number; kind = TextTooLong })
over_limit at front None rest short fits over first = tt
over_limit at front (Some left) None short fits over first = absurd first
over_limit at front (Some left) (Some rest) short fits over first =
    let size = line_width at front fits in
    let test : nat_lt at.limit (at.start + width (front_line at front).line) ≡ true = grind (arith, nat_tests, over, size) in
    (front_line at front, rest, first, rw (short_line at front short fits, test) refl, refl)

in_limit : (at : Place) (front : FrontLine) → front.len ≤ 1024 → front.len ≤ length at.ahead → at.start + front_width front ≤ at.limit → limit_fault at.limit (front_line at front) ≡ None
in_limit at front short fits within =
    let size = line_width at front fits in
    let test : nat_lt at.limit (at.start + width (front_line at front).line) ≡ false = grind (arith, nat_tests, within, size) in
    rw (short_line at front short fits, test) refl

-- the line in front is found, or is over the limit
pub first_found : (at : Place) (front : FrontLine) (left : Option (List Placed)) (known : Option (List ℕ)) (result : Result (Option FrontLine) ReadFault)
    → front.len ≤ 1024 → front.len ≤ length at.ahead → LineThen left (front_line at front) (lines_left (past at front) known) → IsWithin at front result → Finds left at known result
first_found at front left known (Ok found) short fits first within = rw within.0 (first, in_limit at front short fits within.1)
first_found at front left known (Err e) short fits first within = rw within.0 (over_limit at front left (lines_left (past at front) known) short fits within.1 first)

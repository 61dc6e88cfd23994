-- Whole lines that were read ahead say what the text's next lines say: line by line, by the bytes that are left.
use Rattle.std.proofs.Common.{◌≡◌, ℕ, ◌+◌, ◌<◌, ◌≤◌, Bool, false, true, List, ◌∷◌, ◌++◌, length, take, drop, nat_lt, Option, Some, None, Ok, Err, refl, sym, ap, subst, append_assoc, ◌∙◌, arith, length-take-le}
use Rattle.std.specs.List.{position_or_len}
use Rattle.std.proofs.lemmas.Bool.Decides.{nat_tests}
use Rattle.er_lines.specs.declared.faults.ReadFault.{ReadFault}
use Rattle.er_lines.specs.declared.faults.ReadFault.TheVariants as fault
use Rattle.er_lines.specs.Lines.{Placed, placed_from, is_end, lines_of, width}
use Rattle.er_lines.specs.Lending.{limit_fault, lines_left}
use Rattle.er_lines.specs.Places.{Place}
use Rattle.er_lines.specs.Reading.{read_lines, Reads, Turns}
use Rattle.er_lines.proofs.LineLemmas.{lines_whole}
use Rattle.er_lines.proofs.TurnLemmas.{turn_fails, turn_on}
use Rattle.er_text.specs.Ending.{comment_past}
use Rattle.er_text.specs.Inner.Ahead.{AreEndedOn, AreReadOn}
use Rattle.er_text.specs.Inner.Traces.{Progress, at_line, plain_at, read_content}
use Rattle.er_text.specs.Places.{Tail}
use Rattle.er_text.specs.declared.endings.Lost.{Lost}
use Rattle.er_text.specs.declared.stages.Stage.{Stage}
use Rattle.er_trace.specs.Trace.{Recording}
use Rattle.er_text.proofs.TailLemmas.{tail_on}

-- the whole line of so many bytes in front
abbrev front : ℕ → ℕ → ℕ → List ℕ → Placed
front number start n xs = record { number = number; start = start; line = record { bytes = take n xs; ended = true } }

-- it is the first, and then come those behind it
front_then : (number start n : ℕ) (xs tail : List ℕ) → n ≡ position_or_len is_end xs → n < length xs
    → placed_from number start (lines_of (xs ++ tail)) ≡ front number start n xs ∷ placed_from (number + 1) (start + (n + 1)) (lines_of (drop (n + 1) xs ++ tail))
front_then number start n xs tail place within =
    let inner : position_or_len is_end xs < length xs = omega (arith, place, within) in
    let lines : lines_of (xs ++ tail) ≡ record { bytes = take n xs; ended = true } ∷ lines_of (drop (n + 1) xs ++ tail) = rw place (lines_whole xs tail inner) in
    let fits : n ≤ length xs = omega (arith, within) in
    let size : width (record { bytes = take n xs; ended = true }) ≡ n + 1 = ap (λ k. k + 1) (length-take-le n xs fits) in
    ap (placed_from number start) lines ∙ ap (λ k. front number start n xs ∷ placed_from (number + 1) (start + k) (lines_of (drop (n + 1) xs ++ tail))) size

-- it is in the limits
front_within : (limit number start n : ℕ) (xs : List ℕ) → n < length xs → n ≤ 1024 → start + (n + 1) ≤ limit → limit_fault limit (front number start n xs) ≡ None
front_within limit number start n xs within short fits =
    let all : n ≤ length xs = omega (arith, within) in
    let size = length-take-le n xs all in
    let one : nat_lt 1024 (length (take n xs)) ≡ false = grind (arith, nat_tests, short, size) in
    let other : nat_lt limit (start + (length (take n xs) + 1)) ≡ false = grind (arith, nat_tests, fits, size) in
    rw (one, other) refl

-- a line that was read
pub ahead_on : (limit number start n : ℕ) (xs tail : List ℕ) (t u : Progress) → n ≡ position_or_len is_end xs → n < length xs → n ≤ 1024 → start + (n + 1) ≤ limit
    → plain_at t number (take n xs) ≡ Ok u → AreReadOn limit number start (xs ++ tail) (number + 1) (start + (n + 1)) (drop (n + 1) xs ++ tail) t u
ahead_on limit number start n xs tail t u place within short fits read =
    turn_on limit read_content (Some (placed_from number start (lines_of (xs ++ tail)))) (Some (placed_from (number + 1) (start + (n + 1)) (lines_of (drop (n + 1) xs ++ tail)))) (front number start n xs) t u
    (front_then number start n xs tail place within) (front_within limit number start n xs within short fits) read

-- what it makes of how the lines before end
pub ahead_ends : (number start n : ℕ) (xs tail : List ℕ) (before : Tail) (comment : Option Lost) → n ≡ position_or_len is_end xs → n < length xs → comment ≡ comment_past before.comment number (take n xs)
    → AreEndedOn number start (xs ++ tail) (number + 1) (start + (n + 1)) (drop (n + 1) xs ++ tail) before (record { cut = false; comment = comment })
ahead_ends number start n xs tail before comment place within says =
    tail_on (Some (placed_from number start (lines_of (xs ++ tail)))) (Some (placed_from (number + 1) (start + (n + 1)) (lines_of (drop (n + 1) xs ++ tail)))) (front number start n xs) before (record { cut = false; comment = comment })
    (front_then number start n xs tail place within) (ap (λ (c : Option Lost). record { cut = false; comment = c }) says)

-- a fault that was found behind others is that of all
behind_fails : (limit : ℕ) (left all : List Placed) (more : Option (List Placed)) (a t u p : Progress) (e : ReadFault) → read_lines limit read_content all a ≡ read_lines limit read_content left t
    → Turns limit read_content (Some left) more t u (Err e) → Turns limit read_content (Some all) more a p (Err e)
behind_fails limit left all more a t u p (fault.Text f) on turn = on ∙ turn
behind_fails limit left all more a t u p fault.Memory on turn = tt
behind_fails limit left all more a t u p fault.Read on turn = tt

-- a line that gave an error, by its number and its bytes
pub ahead_fails : (limit number start n k s : ℕ) (xs tail bytes : List ℕ) (more : Option (List Placed)) (a p v : Progress) (stage : Stage) (idle : List Bool) (told : Recording) (e : ReadFault) (line : ℕ) (text : List ℕ)
    → n ≡ position_or_len is_end xs → n < length xs → n ≤ 1024 → s + (n + 1) ≤ limit → AreReadOn limit number start bytes k s (xs ++ tail) a (at_line k stage idle told)
    → line ≡ k → text ≡ take n xs → Reads {X = Unit {0}} line v (Err e) (plain_at (at_line line stage idle told) line text)
    → Turns limit read_content (Some (placed_from number start (lines_of bytes))) more a p (Err e)
ahead_fails limit number start n k s xs tail bytes more a p v stage idle told e line text place within short fits on same all gives =
    let G : ℕ → Type 0 = λ l. Reads {X = Unit {0}} l v (Err e) (plain_at (at_line l stage idle told) l text) in
    let H : List ℕ → Type 0 = λ b. Reads {X = Unit {0}} k v (Err e) (plain_at (at_line k stage idle told) k b) in
    let t : Progress = at_line k stage idle told in
    behind_fails limit (placed_from k s (lines_of (xs ++ tail))) (placed_from number start (lines_of bytes)) more a t t p e on
    (turn_fails limit read_content (Some (placed_from k s (lines_of (xs ++ tail)))) (Some (placed_from (k + 1) (s + (n + 1)) (lines_of (drop (n + 1) xs ++ tail)))) more (front k s n xs) t t v e
    (front_then k s n xs tail place within) (front_within limit k s n xs within short fits) (subst H all (subst G same gives)))

-- what was read ahead, and then what nobody has taken yet
ahead_text : (place : Place) (bytes more ys : List ℕ) → place.ahead ≡ bytes ++ more → place.ahead ++ ys ≡ bytes ++ (more ++ ys)
ahead_text place bytes more ys e = ap (λ (b : List ℕ). b ++ ys) e ∙ append_assoc bytes more ys

-- a line of theirs that has a fault stops the text there
pub ahead_stops : (place : Place) (known : Option (List ℕ)) (bytes more : List ℕ) (number : ℕ) (stage : Stage) (idle : List Bool) (told : Recording) (e : ReadFault) → place.ahead ≡ bytes ++ more → number ≡ place.number
    → ((tail : List ℕ) (p : Progress) → Turns place.limit read_content (Some (placed_from number place.start (lines_of (bytes ++ tail)))) None (at_line number stage idle told) p (Err e))
    → Turns place.limit read_content (lines_left place known) None (at_line place.number stage idle told) (at_line place.number stage idle told) (Err e)
ahead_stops place None bytes more number stage idle told e is same stops = tt
ahead_stops place (Some ys) bytes more number stage idle told e is same stops =
    let T : ℕ → Type 0 = λ n. Turns place.limit read_content (Some (placed_from n place.start (lines_of (bytes ++ (more ++ ys))))) None (at_line n stage idle told) (at_line place.number stage idle told) (Err e) in
    let B : List ℕ → Type 0 = λ b. Turns place.limit read_content (Some (placed_from place.number place.start (lines_of b))) None (at_line place.number stage idle told) (at_line place.number stage idle told) (Err e) in
    subst B (sym (ahead_text place bytes more ys is)) (subst T same (stops (more ++ ys) (at_line place.number stage idle told)))

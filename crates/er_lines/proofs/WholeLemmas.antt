-- Whole lines, each with its LF, read apart from the bytes behind them.
use Rattle.std.proofs.Common.{◌≡◌, ℕ, ◌+◌, ◌<◌, Bool, true, false, ◌&&◌, List, [], ◌∷◌, ◌++◌, length, take, get_or, refl, sym, ap, ◌∙◌, subst, arith}
use Rattle.std.specs.List.{list_all}
use Rattle.std.proofs.lemmas.List.{take_more}
use Rattle.er_lines.specs.Lines.{Line, is_end, lines_of, onto_line, width, AreWhole}

abbrev all_ended : List Line → Bool
all_ended lines = list_all (λ line. line.ended) lines

-- a line of a byte more has its LF where the line had it
onto_ended : (x : ℕ) (lines : List Line) → all_ended (onto_line x lines) ≡ true → all_ended lines ≡ true
onto_ended x [] e = refl
onto_ended x (line ∷ lines) e = e

onto_append : (x : ℕ) (lines more : List Line) → all_ended (onto_line x lines) ≡ true → onto_line x (lines ++ more) ≡ onto_line x lines ++ more
onto_append x [] more e = absurd (cc)
onto_append x (line ∷ lines) more e = refl

append_step : (x : ℕ) (a b : List ℕ) (ends : Bool) → is_end x ≡ ends → (AreWhole a → lines_of (a ++ b) ≡ lines_of a ++ lines_of b)
    → AreWhole (x ∷ a) → lines_of (x ∷ a ++ b) ≡ lines_of (x ∷ a) ++ lines_of b
append_step x a b true e more whole =
    let rest : AreWhole a = rw e at whole in
    rw e (ap (λ (ls : List Line). record { bytes = []; ended = true } ∷ ls) (more rest))
append_step x a b false e more whole =
    let front : all_ended (onto_line x (lines_of a)) ≡ true = rw e at whole in
    rw e (ap (onto_line x) (more (onto_ended x (lines_of a) front)) ∙ onto_append x (lines_of a) (lines_of b) front)

-- the lines of whole lines and what follows
pub lines_append : (a b : List ℕ) → AreWhole a → lines_of (a ++ b) ≡ lines_of a ++ lines_of b
lines_append [] b whole = refl
lines_append (x ∷ a) b whole = append_step x a b (is_end x) refl (lines_append a b) whole

ended_step : (first : Bool) (lines more : List Line) → (all_ended lines ≡ true → all_ended (lines ++ more) ≡ all_ended more)
    → (first && all_ended lines) ≡ true → (first && all_ended (lines ++ more)) ≡ all_ended more
ended_step true lines more rest e = rest e
ended_step false lines more rest e = absurd (cc)

ended_append : (lines more : List Line) → all_ended lines ≡ true → all_ended (lines ++ more) ≡ all_ended more
ended_append [] more e = refl
ended_append (line ∷ lines) more e = ended_step line.ended lines more (ended_append lines more) e

-- what follows whole lines has whole lines exactly where all of it has
pub whole_rest : (a b : List ℕ) → AreWhole a → AreWhole (a ++ b) → AreWhole b
whole_rest a b whole all = sym (ended_append (lines_of a) (lines_of b) whole) ∙ sym (ap all_ended (lines_append a b whole)) ∙ all

-- there are lines, and each has its LF
abbrev some_ended : List Line → Bool
some_ended [] = false
some_ended (line ∷ lines) = all_ended (line ∷ lines)

some_all : (lines : List Line) → some_ended lines ≡ true → all_ended lines ≡ true
some_all [] e = refl
some_all (line ∷ lines) e = e

some_onto : (x : ℕ) (lines : List Line) → some_ended lines ≡ true → some_ended (onto_line x lines) ≡ true
some_onto x [] e = absurd (cc)
some_onto x (line ∷ lines) e = e

last_step : (x : ℕ) (a : List ℕ) (ends : Bool) → is_end x ≡ ends → some_ended (lines_of (a ++ 10 ∷ [])) ≡ true → some_ended (lines_of (x ∷ a ++ 10 ∷ [])) ≡ true
last_step x a true e more = rw e (some_all (lines_of (a ++ 10 ∷ [])) more)
last_step x a false e more = rw e (some_onto x (lines_of (a ++ 10 ∷ [])) more)

some_lines : (a : List ℕ) → some_ended (lines_of (a ++ 10 ∷ [])) ≡ true
some_lines [] = refl
some_lines (x ∷ a) = last_step x a (is_end x) refl (some_lines a)

-- bytes that end with an LF
pub whole_ended : (a : List ℕ) → AreWhole (a ++ 10 ∷ [])
whole_ended a = some_all (lines_of (a ++ 10 ∷ [])) (some_lines a)

-- bytes up to an LF
pub whole_front : (n : ℕ) (a : List ℕ) → n < length a → get_or a n 0 ≡ 10 → AreWhole (take (n + 1) a)
whole_front n a inside ends =
    let front : take (n + 1) a ≡ take n a ++ 10 ∷ [] = take_more a n 0 inside ∙ ap (λ (b : ℕ). take n a ++ b ∷ []) ends in
    subst AreWhole (sym front) (whole_ended (take n a))

-- how many bytes these lines take
abbrev pub widths : List Line → ℕ
widths [] = 0
widths (line ∷ lines) = width line + widths lines

widths_onto : (x : ℕ) (lines : List Line) → widths (onto_line x lines) ≡ 1 + widths lines
widths_onto x [] = refl
widths_onto x (line ∷ lines) = omega arith

widths_step : (x : ℕ) (a : List ℕ) (ends : Bool) → is_end x ≡ ends → widths (lines_of a) ≡ length a → widths (lines_of (x ∷ a)) ≡ length (x ∷ a)
widths_step x a true e more = rw e (omega (arith, more))
widths_step x a false e more = rw e (omega (arith, more, widths_onto x (lines_of a)))

-- the lines of a text take its bytes
pub widths_all : (a : List ℕ) → widths (lines_of a) ≡ length a
widths_all [] = refl
widths_all (x ∷ a) = widths_step x a (is_end x) refl (widths_all a)

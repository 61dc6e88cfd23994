-- A faulty line with a mark under a place in it.
use Rattle.std.specs.Prelude.{ℕ, ◌-◌, cond, nat_le, List, [], ◌∷◌, ◌++◌, length, take, drop, map, codes}
use Rattle.er_exit.specs.Plain.{fitting, shown}

-- from where the line is quoted: from its beginning, unless the place is too far to the right
abbrev pub start_of : List ℕ → ℕ → ℕ
start_of line place = cond (nat_le (length (shown (take place line))) 90) 0 (place - 20)

-- two dots if the line's beginning isn't quoted
abbrev pub front_mark : ℕ → List ℕ
front_mark start = cond (nat_le start 0) [] (codes "..")

-- the line from a place on, and under it the mark
abbrev pub quote_from : List ℕ → ℕ → ℕ → List ℕ
quote_from line start place =
    codes "    " ++ front_mark start ++ fitting 100 (drop start line) ++ 10 ∷ []
    ++ codes "    " ++ map (λ byte. 32) (front_mark start ++ shown (take (place - start) (drop start line))) ++ codes "^\n"

-- a line of a trace with a mark under one of its bytes
abbrev pub quote_text : List ℕ → ℕ → List ℕ
quote_text line place = quote_from line (start_of line place) place

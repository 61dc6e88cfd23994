-- How the first lines are counted, piece by piece.
use Rattle.std.specs.Prelude.{ℕ, ◌-◌, List, count_by}
use Rattle.er_lines.specs.Lines.{is_end}

-- how many lines are left behind these bytes, of so many
abbrev pub lines_behind : List ℕ → ℕ → ℕ
lines_behind bytes lines = lines - count_by is_end bytes

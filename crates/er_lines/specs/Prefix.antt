-- The first lines of a text, and a reader of them.
use Rattle.std.specs.Prelude.{ℕ, ◌-◌, ◌==◌, List, [], ◌∷◌, if◌then◌else◌}
use Rattle.er_lines.specs.Lines.{is_end}
use Rattle.er_lines.specs.declared.prefix.Prefix.{Prefix}

-- the first lines of a text, so many of them or all, each with its line feed
abbrev pub first_lines : ℕ → List ℕ → List ℕ
first_lines lines [] = []
first_lines lines (byte ∷ bytes) = if lines == 0 then [] else byte ∷ first_lines (if is_end byte then lines - 1 else lines) bytes

-- the reader that is cut off
abbrev pub cut_off : {R S : Type 0} → Prefix R S → R
cut_off prefix = prefix.inner

-- how many lines it still gives, the one that it is in among them
abbrev pub lines_left : {R S : Type 0} → Prefix R S → ℕ
lines_left prefix = prefix.lines

-- What accesses touch, by the line feeds of the text.
use Rattle.std.specs.Prelude.{ℕ, ◌+◌, List, [], ◌++◌, count_by, codes, drop, length, take, if◌then◌else◌}
use Rattle.std.specs.Str.{bytes_eq}
use Rattle.er_binary.specs.Meaning.{Making, blocks, magic}
use Rattle.er_binary.specs.States.{first_state}
use Rattle.er_binary.specs.Touches.{passed_by, touches_said}
use Rattle.er_lines.specs.Lines.{is_end}
use Rattle.er_lines.specs.declared.ready.Touch.{Touch}

-- the number of the line behind a text that ends with a line feed: one more than its line feeds, up to the greatest number
abbrev pub line_behind : List ℕ → ℕ
line_behind text = passed_by 1 (count_by is_end text)

-- what accesses touch, by the text before each record: the first line of the record's text is the one behind that
abbrev pub by_text : Making (List ℕ → List Touch)
by_text = record {
  of_record = λ t more text. touches_said (line_behind text) t.says ++ more (text ++ t.text);
  of_damage = λ at text. [];
  of_cut = λ at text. [];
  of_end = λ text. [];
}

-- the same of a binary trace behind its first 8 bytes, whose text begins with the header
abbrev pub behind_by_text : List ℕ → List Touch
behind_by_text bytes = blocks by_text (length bytes + 1) 0 8 first_state bytes (codes "eraser trace 3\n")

-- and of a trace of any form
abbrev pub touches_by_text : List ℕ → List Touch
touches_by_text bytes = if bytes_eq (take 8 bytes) magic then behind_by_text (drop 8 bytes) else []

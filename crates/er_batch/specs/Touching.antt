-- What a list of touches says of the lines of a text.
use Rattle.std.specs.Prelude.{◌≡◌, ◌==◌, ℕ, nat_le, All, cond, find, List, Option, Some, None, IfSome}
use Rattle.er_lines.specs.declared.ready.Touch.{Touch}

-- the touch, if it is of the line
abbrev pub of_line : ℕ → Option Touch → Option Touch
of_line line None = None
of_line line (Some touch) = cond (touch.line == line) (Some touch) None

-- what a list, whose lines rise, says of a line: its first touch of this line or of a later one, if that is of this line
unfoldable pub touch_on : List Touch → ℕ → Option Touch
touch_on touches line = of_line line (find (λ touch. nat_le line touch.line) touches)

-- the list says of these lines what all touches say, if these are known
abbrev pub AgreeOn : Option (List Touch) → List Touch → List ℕ → Type 0
AgreeOn known touches lines = IfSome known (λ all. All (λ line. touch_on touches line ≡ touch_on all line) lines)

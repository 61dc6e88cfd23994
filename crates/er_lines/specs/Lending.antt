-- What a reader of lines shows of the text that it is in.
use Rattle.std.specs.Prelude.{◌≡◌, ℕ, Bool, ◌+◌, ◌<◌, ◌≤◌, List, [], ◌∷◌, Option, Some, None, Result, Ok, Err, length, take, drop, nat_lt, option_map, if◌then◌else◌}
use Rattle.std.specs.Io.KnownBytes.{prepend_known}
use Rattle.er_lines.specs.declared.faults.TextKind.{TextKind}
use Rattle.er_lines.specs.declared.faults.TextKind.TheVariants.{LineTooLong, TextTooLong}
use Rattle.er_lines.specs.declared.faults.TextFault.{TextFault}
use Rattle.er_lines.specs.declared.faults.ReadFault.{ReadFault}
use Rattle.er_lines.specs.declared.faults.ReadFault.TheVariants as fault
use Rattle.er_lines.specs.declared.lines.FrontLine.{FrontLine}
use Rattle.er_lines.specs.Places.{Place}
use Rattle.er_lines.specs.Lines.{Placed, placed_from, width, lines_of}

-- how many bytes were taken from the reader of bytes
abbrev pub taken_by : Place → ℕ
taken_by at = at.start + length at.ahead

abbrev pub lines_from : ℕ → ℕ → Option (List ℕ) → Option (List Placed)
lines_from number start bytes = option_map (λ text. placed_from number start (lines_of text)) bytes

-- the lines that are left, where the bytes are known that nobody has taken yet
abbrev pub lines_left : Place → Option (List ℕ) → Option (List Placed)
lines_left at known = lines_from at.number at.start (prepend_known at.ahead known)

-- whether an LF follows a line in front
abbrev pub is_ended : FrontLine → Bool
is_ended front = nat_lt 0 front.breaks

-- how many bytes of the text a line in front takes, its LF included
abbrev pub front_width : FrontLine → ℕ
front_width front = front.len + (if is_ended front then 1 else 0)

-- the line in front
abbrev pub front_line : Place → FrontLine → Placed
front_line at front = record { number = at.number; start = at.start; line = record { bytes = take front.len at.ahead; ended = is_ended front } }

-- past the line in front
abbrev pub past : Place → FrontLine → Place
past at front = record at { number = at.number + 1; start = at.start + front_width front; ahead = drop (front_width front) at.ahead }

-- past so many lines in front, which take so many bytes
abbrev pub past_lines : Place → ℕ → ℕ → Place
past_lines at lines len = record at { number = at.number + lines; start = at.start + len; ahead = drop len at.ahead }

-- a line in front can be passed over
pub record IsInFront (at : Place) (front : FrontLine) : Type 0 where
  pub len : front_width front ≤ length at.ahead
  pub some : 0 < front_width front
  pub within : at.start + front_width front ≤ at.limit

-- the fault of a line that is too long, or goes past the limit
abbrev pub limit_fault : ℕ → Placed → Option TextKind
limit_fault limit p = if nat_lt 1024 (length p.line.bytes) then Some LineTooLong else if nat_lt limit (p.start + width p.line) then Some TextTooLong else None

-- this line, and then the rest, are what is left
abbrev pub LineThen : Option (List Placed) → Placed → Option (List Placed) → Type 0
LineThen None p rest = Unit {0}
LineThen (Some left) p None = ⊥
LineThen (Some left) p (Some rest) = left ≡ p ∷ rest

-- the first line of what is left has this fault of the limits
abbrev pub IsOver : ℕ → Option (List Placed) → TextFault → Type 0
IsOver limit None f = Unit {0}
IsOver limit (Some left) f = (p : Placed) × (rest : List Placed) × (left ≡ p ∷ rest) × (limit_fault limit p ≡ Some f.kind) × (f.line ≡ p.number)

abbrev pub IsNothing : Option (List Placed) → Type 0
IsNothing None = Unit {0}
IsNothing (Some left) = left ≡ []

-- what a look at the next line found
abbrev pub Finds : Option (List Placed) → Place → Option (List ℕ) → Result (Option FrontLine) ReadFault → Type 0
Finds left at known (Ok (Some front)) = LineThen left (front_line at front) (lines_left (past at front) known) × (limit_fault at.limit (front_line at front) ≡ None)
Finds left at known (Ok None) = IsNothing left
Finds left at known (Err (fault.Text f)) = IsOver at.limit left f
Finds left at known (Err fault.Memory) = Unit {0}
Finds left at known (Err fault.Read) = Unit {0}

-- a line in front, or the fault that it goes past the limit
abbrev pub IsWithin : Place → FrontLine → Result (Option FrontLine) ReadFault → Type 0
IsWithin at front (Ok found) = (found ≡ Some front) × (at.start + front_width front ≤ at.limit)
IsWithin at front (Err e) = (e ≡ fault.Text (record { line = at.number; kind = TextTooLong })) × (at.limit < at.start + front_width front)

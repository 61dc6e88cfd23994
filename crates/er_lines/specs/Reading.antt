-- A reading of lines, one after another, whatever sort of text they are. `T` is what was read so far.
use Rattle.std.specs.Prelude.{◌≡◌, ℕ, ◌+◌, not, Bool, true, false, List, [], ◌∷◌, Option, Some, None, Result, Ok, Err, length, nat_lt, if◌then◌else◌}
use Rattle.std.specs.List.{list_all}
use Rattle.er_lines.specs.declared.faults.TextKind.{TextKind}
use Rattle.er_lines.specs.declared.faults.TextKind.TheVariants.{LineTooLong, TextTooLong, NotAscii}
use Rattle.er_lines.specs.declared.faults.TextFault.{TextFault}
use Rattle.er_lines.specs.declared.faults.ReadFault.{ReadFault}
use Rattle.er_lines.specs.declared.faults.ReadFault.TheVariants as fault
use Rattle.er_lines.specs.Lines.{Placed, width, is_ascii}
use Rattle.er_lines.specs.Words.{and_then}

-- a line in the limits
abbrev pub read_plain : {T : Type 0} → (T → Placed → Result T TextKind) → T → Placed → Result T TextKind
read_plain content t p = if not (list_all is_ascii p.line.bytes) then Err NotAscii else content t p

-- one line, or its first fault
abbrev pub read_line : {T : Type 0} → ℕ → (T → Placed → Result T TextKind) → T → Placed → Result T TextKind
read_line limit content t p =
    if nat_lt 1024 (length p.line.bytes) then Err LineTooLong
    else if nat_lt limit (p.start + width p.line) then Err TextTooLong
    else read_plain content t p

-- the reading goes on behind a line, or stops at its fault
abbrev pub go_on : {T U : Type 0} → Placed → (T → Result U TextFault) → Result T TextKind → Result U TextFault
go_on p more (Ok t) = more t
go_on p more (Err kind) = Err (record { line = p.number; kind = kind })

-- all that is left of the lines
abbrev pub read_lines : {T : Type 0} → ℕ → (T → Placed → Result T TextKind) → List Placed → T → Result T TextFault
read_lines limit content [] t = Ok t
read_lines limit content (p ∷ ps) t = go_on p (read_lines limit content ps) (read_line limit content t p)

-- what lines say that are known to be in the limits
abbrev pub read_contents : {T : Type 0} → (T → Placed → Result T TextKind) → List Placed → T → Result T TextKind
read_contents content [] t = Ok t
read_contents content (p ∷ ps) t = and_then (content t p) (read_contents content ps)

-- what a call did with a line is what the definition gives, unless memory ran out
abbrev pub Reads : {T X : Type 0} → ℕ → T → Result X ReadFault → Result T TextKind → Type 0
Reads number new (Ok x) gives = gives ≡ Ok new
Reads number new (Err (fault.Text f)) gives = (f.line ≡ number) × (gives ≡ Err f.kind)
Reads number new (Err fault.Memory) gives = Unit {0}
Reads number new (Err fault.Read) gives = Unit {0}

-- one line was read of those that were left, or there was none, or the first fault was found
abbrev pub Turns : {T : Type 0} → ℕ → (T → Placed → Result T TextKind) → Option (List Placed) → Option (List Placed) → T → T → Result Bool ReadFault → Type 0
Turns limit content None rest t u result = Unit {0}
Turns limit content (Some left) None t u (Ok true) = ⊥
Turns limit content (Some left) (Some rest) t u (Ok true) = read_lines limit content left t ≡ read_lines limit content rest u
Turns limit content (Some left) rest t u (Ok false) = read_lines limit content left t ≡ Ok u
Turns limit content (Some left) rest t u (Err (fault.Text f)) = read_lines limit content left t ≡ Err f
Turns limit content (Some left) rest t u (Err fault.Memory) = Unit {0}
Turns limit content (Some left) rest t u (Err fault.Read) = Unit {0}

-- the reading of what is left comes to what the reading of these lines comes to
abbrev pub Continues : {T : Type 0} → ℕ → (T → Placed → Result T TextKind) → Option (List Placed) → Option (List Placed) → T → T → Type 0
Continues limit content None rest t u = Unit {0}
Continues limit content (Some left) None t u = ⊥
Continues limit content (Some left) (Some rest) t u = read_lines limit content left t ≡ read_lines limit content rest u

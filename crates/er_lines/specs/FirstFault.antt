-- The first fault of a text, by tables of the faults of its lines. Each sort of text has a table of its own for what its lines say.
use Rattle.std.specs.Prelude.{◌≡◌, ℕ, ◌+◌, ◌≤◌, ◌&&◌, Bool, true, not, List, [], ◌∷◌, ◌++◌, Option, Some, None, length, nat_lt, nat_le, if◌then◌else◌}
use Rattle.std.specs.List.{list_all}
use Rattle.er_lines.specs.declared.faults.TextKind.{TextKind}
use Rattle.er_lines.specs.declared.faults.TextKind.TheVariants.{LineTooLong, TextTooLong, NotAscii}
use Rattle.er_lines.specs.declared.faults.TextFault.{TextFault}
use Rattle.er_lines.specs.Lines.{Placed, width, is_ascii, most_line_bytes}

-- a line of at most 1,024 bytes, of ASCII
abbrev pub IsPlain : Placed → Type 0
IsPlain p = (length p.line.bytes ≤ most_line_bytes) × (list_all is_ascii p.line.bytes ≡ true)

-- the first fault of a table, and none where no row applies
abbrev pub first_kind : List (Bool × TextKind) → Option TextKind
first_kind [] = None
first_kind (row ∷ rows) = if row.0 then Some row.1 else first_kind rows

-- the faults of a line, in their order: those of any line, and then those of what it says
abbrev pub line_kinds : ℕ → List (Bool × TextKind) → Placed → List (Bool × TextKind)
line_kinds limit content p =
    (nat_lt most_line_bytes (length p.line.bytes), LineTooLong)
    ∷ (nat_le p.start limit && nat_lt limit (p.start + width p.line), TextTooLong)
    ∷ (not (list_all is_ascii p.line.bytes), NotAscii)
    ∷ content

-- what lines make known to those behind them
abbrev pub known_after : {S : Type 0} → (S → Placed → S) → S → List Placed → S
known_after next known [] = known
known_after next known (p ∷ ps) = known_after next (next known p) ps

-- no fault in any of these lines
abbrev pub HasNone : {S : Type 0} → ℕ → (S → Placed → List (Bool × TextKind)) → (S → Placed → S) → S → List Placed → Type 0
HasNone limit content next known [] = Unit {0}
HasNone limit content next known (p ∷ ps) = (first_kind (line_kinds limit (content known p) p) ≡ None) × HasNone limit content next (next known p) ps

-- the first faulty line, with its first fault
abbrev pub IsFirstFaulty : {S : Type 0} → ℕ → (S → Placed → List (Bool × TextKind)) → (S → Placed → S) → S → List Placed → TextFault → Type 0
IsFirstFaulty limit content next known lines f =
    (before : List Placed) × (p : Placed) × (after : List Placed) × (lines ≡ before ++ p ∷ after) × HasNone limit content next known before
    × (first_kind (line_kinds limit (content (known_after next known before) p) p) ≡ Some f.kind) × (f.line ≡ p.number)

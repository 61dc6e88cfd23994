-- Which bytes of their words accesses touch, by the lines of the text.
use Rattle.std.specs.Prelude.{◌≤◌, ℕ, All, zero, suc, ◌+◌, ◌-◌, ◌*◌, ◌/◌, ◌^◌, ◌==◌, ◌&&◌, min, Bool, cond, List, [], ◌∷◌, ◌++◌}
use Rattle.er_binary.specs.States.{address_of}
use Rattle.er_binary.specs.Texts.{words_of}
use Rattle.er_binary.specs.declared.records.Kind.{Kind}
use Rattle.er_binary.specs.declared.records.Kind.TheVariants as kind
use Rattle.er_binary.specs.declared.records.Record.{Record}
use Rattle.er_binary.specs.declared.records.Record.TheVariants as said
use Rattle.er_binary.specs.declared.state.State.{State}
use Rattle.er_binary.specs.declared.touches.Said.{Said}
use Rattle.er_lines.specs.declared.ready.Touch.{Touch}

-- how many lines the text of a record has that is no access. Of the end the last one alone counts, since none comes behind it
abbrev pub lines_of : Kind → ℕ
lines_of kind.Thread = 0
lines_of kind.Node = 0
lines_of kind.FailedTry = 0
lines_of kind.Flow = 0
lines_of kind.ThreadName = 0
lines_of kind.LockName = 0
lines_of kind.Place = 0
lines_of kind.NewNode = 0
lines_of kind.Fact = 0
lines_of kind.Lost = 0
lines_of k = 1

-- so many lines, and no access
abbrev pub lines_alone : ℕ → Said
lines_alone lines = record { address = 0; size = 0; words = 0; lines = lines }

-- what a record says of the lines of its text: an access has one for each of its words
abbrev pub said_by : State → Record → Said
said_by s (said.Access a) = record { address = address_of s a; size = a.size; words = words_of (address_of s a) a.size; lines = words_of (address_of s a) a.size }
said_by s (said.Other k n) = lines_alone (lines_of k)

-- the number of the line behind so many: lines are counted up to the greatest number
abbrev pub passed_by : ℕ → ℕ → ℕ
passed_by line lines = min (line + lines) (2 ^ 64 - 1)

-- what an access touches of the word at this place among its words, whose line has this number
abbrev pub touch_at : ℕ → Said → ℕ → Touch
touch_at line s k =
    let begin = (s.address / 4 + k) * 4 in
    record { line = line; first = s.address - begin; last = min (s.address + s.size - (begin + 1)) 3 }

-- these are all bytes of a word
abbrev pub is_whole : Touch → Bool
is_whole t = (t.first == 0) && (t.last == 3)

-- what an access touches of those of its first words that it doesn't touch whole, if its first line has this number
abbrev pub touches_below : ℕ → Said → ℕ → List Touch
touches_below line s zero = []
touches_below line s (suc k) = let t = touch_at (passed_by line k) s k in touches_below line s k ++ cond (is_whole t) [] (t ∷ [])

-- and of all of them
unfoldable pub touches_said : ℕ → Said → List Touch
touches_said line s = touches_below line s s.words

-- each touches some of the bytes 0 to 3
abbrev pub AreOfWords : List Touch → Type 0
AreOfWords touches = All (λ t. (t.first ≤ t.last) × (t.last ≤ 3)) touches

-- each is of a line behind that of the one before it, as far as lines are counted
abbrev pub AreInOrder : List Touch → Type 0
AreInOrder [] = Unit {0}
AreInOrder (t ∷ touches) = All (λ more. passed_by t.line 1 ≤ more.line) touches × AreInOrder touches

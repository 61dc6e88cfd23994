-- The lines of a text, and the words of a line.
use Rattle.std.specs.Prelude.{◌≡◌, ℕ, ◌+◌, ◌==◌, ◌||◌, ◌&&◌, not, Bool, true, false, List, [], ◌∷◌, length, take, drop, filter, nat_lt, if◌then◌else◌}
use Rattle.std.specs.List.{list_all, position_or_len, slice_split}

-- the most bytes of a line
abbrev pub most_line_bytes : ℕ
most_line_bytes = 1024

-- the most bytes that are taken past the limit of a text: those of a line that is too long
abbrev pub bytes_past_limit : ℕ
bytes_past_limit = 1025

-- a line, and whether an LF follows it
pub record Line : Type 0 where
  pub bytes : List ℕ
  pub ended : Bool

abbrev pub is_end : ℕ → Bool
is_end byte = byte == 10

-- this byte, and then the first of the lines
abbrev pub onto_line : ℕ → List Line → List Line
onto_line byte [] = record { bytes = byte ∷ []; ended = false } ∷ []
onto_line byte (line ∷ lines) = record { bytes = byte ∷ line.bytes; ended = line.ended } ∷ lines

-- the parts of a text between its LFs, of which an empty last one is none
abbrev pub lines_of : List ℕ → List Line
lines_of [] = []
lines_of (byte ∷ bytes) = if is_end byte then record { bytes = []; ended = true } ∷ lines_of bytes else onto_line byte (lines_of bytes)

-- how many bytes of the text a line takes, its LF included
abbrev pub width : Line → ℕ
width line = length line.bytes + (if line.ended then 1 else 0)

-- a line, its number, and how many bytes of the text stand before it
pub record Placed : Type 0 where
  pub number : ℕ
  pub start : ℕ
  pub line : Line

abbrev pub placed_from : ℕ → ℕ → List Line → List Placed
placed_from number start [] = []
placed_from number start (line ∷ lines) = record { number = number; start = start; line = line } ∷ placed_from (number + 1) (start + width line) lines

-- the lines of a text, numbered from 1
abbrev pub placed : List ℕ → List Placed
placed text = placed_from 1 0 (lines_of text)

-- a space or a tab
abbrev pub is_gap : ℕ → Bool
is_gap byte = (byte == 32) || (byte == 9)

abbrev pub has_bytes : List ℕ → Bool
has_bytes [] = false
has_bytes (byte ∷ bytes) = true

-- the longest parts of a line without a gap
abbrev pub words : List ℕ → List (List ℕ)
words line = filter has_bytes (slice_split is_gap line)

-- the first word, or no bytes where there is none
abbrev pub first_of : List (List ℕ) → List ℕ
first_of [] = []
first_of (word ∷ words) = word

-- the word at a place, or no bytes where there is none
abbrev pub word_at : ℕ → List (List ℕ) → List ℕ
word_at n words = first_of (drop n words)

abbrev pub is_ascii : ℕ → Bool
is_ascii byte = nat_lt byte 128

-- the line begins with a number sign
abbrev pub is_comment : List ℕ → Bool
is_comment [] = false
is_comment (byte ∷ bytes) = byte == 35

-- neither blank nor a comment
abbrev pub says_something : List ℕ → Bool
says_something bytes = has_bytes (word_at 0 (words bytes)) && not (is_comment bytes)

abbrev pub has_content : Placed → Bool
has_content p = says_something p.line.bytes

-- each of the lines has its LF
abbrev pub AreWhole : List ℕ → Type 0
AreWhole bytes = list_all (λ line. line.ended) (lines_of bytes) ≡ true

abbrev pub is_space : ℕ → Bool
is_space byte = byte == 32

-- the bytes before the first space, and all of them if there is none
abbrev pub before_space : List ℕ → List ℕ
before_space bytes = take (position_or_len is_space bytes) bytes

-- the bytes behind the first space, and none if there is none
abbrev pub behind_space : List ℕ → List ℕ
behind_space bytes = drop (position_or_len is_space bytes + 1) bytes

-- The text that a trace of any form means, and what the accesses touch that its lines tell.
use Rattle.std.specs.Prelude.{ℕ, zero, suc, ◌+◌, ◌-◌, ◌*◌, ◌%◌, ◌^◌, ◌==◌, ◌||◌, not, Bool, List, [], ◌∷◌, ◌++◌, Option, Some, None, length, drop, nat_lt, take, codes, decimal, if◌then◌else◌}
use Rattle.std.specs.Option.{option_and_then}
use Rattle.std.specs.Int.{w64, rotate_left}
use Rattle.std.specs.Str.{bytes_eq}
use Rattle.er_binary.specs.Numbers.{number, number_in, plus}
use Rattle.er_binary.specs.Records.{body_len, record_at}
use Rattle.er_binary.specs.States.{after, after_access, at_block, first_state, is_access, may_come}
use Rattle.er_binary.specs.Texts.{access_text, text_of, feed}
use Rattle.er_binary.specs.declared.decoder.Spot.{Spot}
use Rattle.er_binary.specs.Touches.{passed_by, said_by, touches_said}
use Rattle.er_binary.specs.declared.records.Access.{Access}
use Rattle.er_binary.specs.declared.records.Record.{Record}
use Rattle.er_binary.specs.declared.records.Record.TheVariants as said
use Rattle.er_binary.specs.declared.state.State.{State}
use Rattle.er_binary.specs.declared.touches.Said.{Said}
use Rattle.er_lines.specs.declared.ready.Touch.{Touch}

-- a record that was read: its text, what is known behind it, how many bytes it has, and what it says of the lines of its text
pub record Taken : Type 0 where
  pub text : List ℕ
  pub state : State
  pub len : ℕ
  pub says : Said

-- an access of so many bytes. One that may not come is none
abbrev pub take_access : State → ℕ → Access → Option Taken
take_access s len a = if is_access s a then Some (record { text = access_text s a; state = after_access s a; len = len; says = said_by s (said.Access a) }) else None

-- what a head of so many bytes says, with the rest of the block behind it. A record that may not come is none
abbrev pub take_said : State → ℕ → List ℕ → Record → Option Taken
take_said s len rest (said.Access a) = take_access s len a
take_said s len rest (said.Other k n) =
    let body = take (body_len k n) rest in
    if nat_lt (length rest) (body_len k n) || not (may_come s k n body (drop (body_len k n) rest)) then None
    else Some (record { text = text_of s k n body; state = after s k n body; len = len + body_len k n; says = said_by s (said.Other k n) })

-- the record in front of the rest of a block
unfoldable pub take_record : State → List ℕ → Option Taken
take_record s bytes = option_and_then (λ head. take_said s head.len (drop head.len bytes) head.says) (record_at bytes)

-- the last line of a damaged text
abbrev pub last_line : List ℕ → ℕ → List ℕ
last_line what at = what ++ codes " at byte " ++ decimal at ++ feed

-- a block is damaged, or a record may not come: at this byte
abbrev pub damaged : ℕ → List ℕ
damaged at = last_line (codes "damaged") at

-- the bytes end too early: at this byte
abbrev pub cut_off : ℕ → List ℕ
cut_off at = last_line (codes "cut off") at

-- behind one more record of a block, of so many bytes
abbrev pub past : Spot → ℕ → Spot
past p len = record p { at = plus p.at len; found = plus p.found 1 }

-- what is made of a trace: of a record and what follows it, of damage and of a cut at a byte, and of the end
pub record Making (M : Type 0) : Type 0 where
  pub of_record : Taken → M → M
  pub of_damage : ℕ → M
  pub of_cut : ℕ → M
  pub of_end : M

-- its text: that of a damaged trace ends with a line that says so
abbrev pub as_text : Making (List ℕ)
as_text = record { of_record = λ t more. t.text ++ more; of_damage = damaged; of_cut = cut_off; of_end = [] }

-- what accesses touch that don't touch their whole words, if the first line has this number
abbrev pub as_touches : Making (ℕ → List Touch)
as_touches = record {
  of_record = λ t more line. touches_said line t.says ++ more (passed_by line t.says.lines);
  of_damage = λ at line. [];
  of_cut = λ at line. [];
  of_end = λ line. [];
}

-- one record and what follows it, or damage at a byte
abbrev pub then_more : {M : Type 0} → Making M → ℕ → (Taken → M) → Option Taken → M
then_more made at more None = made.of_damage at
then_more made at more (Some t) = made.of_record t (more t)

-- the records of a block and what follows them: at most so many, and there are no more than bytes, since each has one at least
abbrev pub records : {M : Type 0} → Making M → ℕ → (State → M) → Spot → State → List ℕ → M
records made zero behind p s bytes = made.of_end
records made (suc n) behind p s [] = if p.found == p.count then behind s else made.of_damage p.start
records made (suc n) behind p s (byte ∷ bytes) =
    then_more made p.at (λ t. records made n behind (past p t.len) t.state (drop (t.len - 1) bytes)) (take_record s (byte ∷ bytes))

-- one step of the checksum: the two halves of the product change places
unfoldable pub mixed : ℕ → ℕ → ℕ
mixed sum word = rotate_left w64 (plus sum word * 0x9E37_79B9_7F4A_7C15 % 2 ^ 64) 32

-- the checksum goes on by words of 8 bytes, of which the last may be shorter
abbrev pub mixed_all : ℕ → List ℕ → ℕ
mixed_all sum (a ∷ b ∷ c ∷ d ∷ e ∷ f ∷ g ∷ h ∷ bytes) = mixed_all (mixed sum (number (a ∷ b ∷ c ∷ d ∷ e ∷ f ∷ g ∷ h ∷ []))) bytes
mixed_all sum [] = sum
mixed_all sum bytes = mixed sum (number bytes)

-- the checksum of a block: its number, how many bytes and records it has, and the bytes
abbrev pub checksum : ℕ → ℕ → ℕ → List ℕ → ℕ
checksum block len count bytes = mixed_all (mixed (mixed 0 block) (len + count * 2 ^ 32)) bytes

-- a block with this number begins at a byte, and these are the first 16 of its bytes
abbrev pub spot_at : ℕ → ℕ → List ℕ → Spot
spot_at block start header = record { block = block; start = start; at = plus start 16; found = 0; count = number_in header 4 8; sum = number_in header 8 16 }

-- a block behind its first 16 bytes: its records, which have so many bytes, and then the blocks behind it
abbrev pub content : {M : Type 0} → Making M → (State → List ℕ → M) → Spot → ℕ → State → List ℕ → M
content made behind p len s bytes =
    if nat_lt (length bytes) len then made.of_cut (plus p.start (16 + length bytes))
    else if not (checksum p.block len p.count (take len bytes) == p.sum) then made.of_damage p.start
    else records made (len + 1) (λ t. behind t (drop len bytes)) p (at_block s) (take len bytes)

-- the records of a block have 1 to 2^20 bytes
abbrev pub is_bad_len : ℕ → Bool
is_bad_len len = (len == 0) || nat_lt (2 ^ 20) len

-- the blocks from a byte on: at most so many, and there are no more than bytes
abbrev pub blocks : {M : Type 0} → Making M → ℕ → ℕ → ℕ → State → List ℕ → M
blocks made zero block start s bytes = made.of_end
blocks made (suc n) block start s bytes =
    let len = number_in bytes 0 4 in
    if s.ended then (if length bytes == 0 then made.of_end else made.of_damage start)
    else if nat_lt (length bytes) 16 then made.of_cut (plus start (length bytes))
    else if is_bad_len len then made.of_damage start
    else content made (blocks made n (plus block 1) (plus start (16 + len))) (spot_at block start (take 16 bytes)) len s (drop 16 bytes)

-- what a binary trace begins with
abbrev pub magic : List ℕ
magic = 0xe5 ∷ 0x65 ∷ 0x72 ∷ 0x61 ∷ 0x73 ∷ 0x65 ∷ 0x72 ∷ 4 ∷ []

-- the text of a binary trace behind its first 8 bytes
abbrev pub text_behind : List ℕ → List ℕ
text_behind bytes = codes "eraser trace 3\n" ++ blocks as_text (length bytes + 1) 0 8 first_state bytes

-- what its accesses touch that don't touch their whole words: the first line behind the header has the number 2
abbrev pub touches_behind : List ℕ → List Touch
touches_behind bytes = blocks as_touches (length bytes + 1) 0 8 first_state bytes 2

-- a trace that doesn't begin as a binary one means itself
abbrev pub meant : List ℕ → List ℕ
meant bytes = if bytes_eq (take 8 bytes) magic then text_behind (drop 8 bytes) else bytes

-- and what its accesses touch that don't touch their whole words. Those of a text touch whole words
abbrev pub touches : List ℕ → List Touch
touches bytes = if bytes_eq (take 8 bytes) magic then touches_behind (drop 8 bytes) else []

-- Records: what the bytes of one say.
use Rattle.std.specs.Prelude.{ℕ, ◌≤◌, ◌+◌, ◌-◌, ◌/◌, ◌%◌, ◌^◌, ◌==◌, ◌||◌, Bool, true, false, List, [], ◌∷◌, Option, Some, None, length, nat_le, nat_lt, slice_index, slice_index_or, if◌then◌else◌}
use Rattle.er_binary.specs.Numbers.{number_in}
use Rattle.er_binary.specs.declared.records.Head.{Head}
use Rattle.er_binary.specs.declared.records.Kind.{Kind}
use Rattle.er_binary.specs.declared.records.Kind.TheVariants as kind
use Rattle.er_binary.specs.declared.records.Record.{Record}
use Rattle.er_binary.specs.declared.records.Record.TheVariants as said

-- the kinds of records by their numbers. Of those with one meaning the later are of tries, of loads, and of facts
abbrev pub kinds : List Kind
kinds = kind.Thread ∷ kind.Node ∷ kind.Lock ∷ kind.Unlock ∷ kind.ReadLock ∷ kind.ReadUnlock ∷ kind.Lock ∷ kind.ReadLock ∷ kind.FailedTry ∷ kind.FailedTry
    ∷ kind.Signal ∷ kind.Await ∷ kind.Start ∷ kind.Join ∷ kind.IgnoreOn ∷ kind.IgnoreOff ∷ kind.Reuse ∷ kind.Show ∷ kind.Level ∷ kind.Flow ∷ kind.Flow
    ∷ kind.ThreadName ∷ kind.LockName ∷ kind.Place ∷ kind.NewNode ∷ kind.Note ∷ kind.Fact ∷ kind.Fact ∷ kind.Fact ∷ kind.Fact ∷ kind.Lost ∷ kind.End ∷ []

-- the kind of a record by its number
abbrev pub kind_of : ℕ → Kind
kind_of n = slice_index_or kinds n kind.Fact

-- how many bytes an operand has, by the two lowest bits of the tag
abbrev pub operand_len : ℕ → ℕ
operand_len tag = slice_index (1 ∷ 2 ∷ 4 ∷ 8 ∷ []) (tag % 4)

-- how many bytes a distance has, by the next two bits
abbrev pub distance_len : ℕ → ℕ
distance_len tag = slice_index (1 ∷ 2 ∷ 4 ∷ 6 ∷ []) (tag / 4 % 4)

-- how many bytes the node of an access has, by the two lowest bits; with none it is the node before
abbrev pub node_len : ℕ → ℕ
node_len tag = slice_index (0 ∷ 1 ∷ 2 ∷ 4 ∷ []) (tag % 4)

-- a distance modulo 2^48: the upper half of the numbers of its length are below 0
abbrev pub signed : ℕ → ℕ → ℕ
signed tag distance =
    let span = slice_index (2 ^ 8 ∷ 2 ^ 16 ∷ 2 ^ 32 ∷ 2 ^ 48 ∷ []) (tag / 4 % 4) in
    if nat_lt distance (span / 2) then distance else distance + (2 ^ 48 - span)

-- how many bytes an access is of: 1, 4, 8, or what the next byte says
abbrev pub size_of : ℕ → ℕ → ℕ
size_of bits byte = if bits == 0 then 1 else if bits == 1 then 4 else if bits == 2 then 8 else byte

-- an access: tag, size, distance, node
abbrev pub access_at : ℕ → List ℕ → Option Head
access_at tag bytes =
    let distance_at = (if tag / 16 % 4 == 3 then 2 else 1) in
    let node_at = distance_at + distance_len tag in
    let len = node_at + node_len tag in
    let size = size_of (tag / 16 % 4) (slice_index bytes 1) in
    if nat_lt (length bytes) len then None
    else if (size == 0) || nat_lt 16 size then None
    else Some (record {
      says = said.Access (record {
        writes = nat_le 64 tag;
        size = size;
        distance = signed tag (number_in bytes distance_at node_at);
        node = if tag % 4 == 0 then None else Some (number_in bytes node_at len);
      });
      len = len;
    })

-- another record: tag and operand
abbrev pub other_at : ℕ → List ℕ → Option Head
other_at tag bytes =
    let len = 1 + operand_len tag in
    if nat_lt (length bytes) len then None
    else Some (record { says = said.Other (kind_of ((tag - 128) / 4)) (number_in bytes 1 len); len = len })

-- the record in front, if its tag and its numbers are there
abbrev pub record_at : List ℕ → Option Head
record_at bytes =
    if length bytes == 0 then None
    else if nat_lt (slice_index bytes 0) 128 then access_at (slice_index bytes 0) bytes
    else other_at (slice_index bytes 0) bytes

-- how many bytes of a record follow these
abbrev pub body_len : Kind → ℕ → ℕ
body_len kind.Reuse number = 6
body_len kind.NewNode number = 5
body_len kind.ThreadName number = number
body_len kind.LockName number = number
body_len kind.Place number = number
body_len kind.Note number = number
body_len kind.Fact number = number
body_len k number = 0

-- whether a record is an event of a thread
abbrev pub is_event : Kind → Bool
is_event kind.Thread = false
is_event kind.Node = false
is_event kind.ThreadName = false
is_event kind.LockName = false
is_event kind.Place = false
is_event kind.NewNode = false
is_event kind.Note = false
is_event kind.Fact = false
is_event kind.Lost = false
is_event kind.End = false
is_event k = true

-- an access is of 1 to 16 bytes
abbrev pub IsSized : Record → Type 0
IsSized (said.Access a) = (1 ≤ a.size) × (a.size ≤ 16)
IsSized (said.Other k n) = Unit {0}

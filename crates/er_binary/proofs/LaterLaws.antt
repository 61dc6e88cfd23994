-- What is noted later is of words, and of later lines in their order.
use Rattle.std.proofs.Common.{◌==◌, ℕ, zero, suc, ◌+◌, ◌-◌, ◌<◌, ◌^◌, Bool, true, false, cond, not, List, [], ◌∷◌, length, take, drop, nat_lt, Option, Some, None, IfSome, arith}
use Rattle.std.specs.Str.{bytes_eq}
use Rattle.er_binary.specs.Inner.Decoders.{all_blocks, all_content, all_records, undecoded}
use Rattle.er_binary.specs.Meaning.{Taken, as_touches, blocks, checksum, content, is_bad_len, magic, past, records, spot_at, take_record, then_more, touches, touches_behind}
use Rattle.er_binary.specs.Numbers.{number_in, plus}
use Rattle.er_binary.specs.States.{at_block, first_state}
use Rattle.er_binary.specs.Touches.{passed_by}
use Rattle.er_binary.specs.declared.decoder.Decoder.{Decoder}
use Rattle.er_binary.specs.declared.decoder.Phase.{Phase}
use Rattle.er_binary.specs.declared.decoder.Phase.TheVariants as phase
use Rattle.er_binary.specs.declared.decoder.Spot.{Spot}
use Rattle.er_binary.specs.declared.state.State.{State}
use Rattle.er_binary.proofs.TouchLaws.{IsFine, IsSaid, fine_append, none_fine, record_said, said_before, said_fine}
use Rattle.er_lines.specs.declared.ready.Touch.{Touch}

-- what is made of lines from any one on
abbrev pub IsLater : (ℕ → List Touch) → Type 0
IsLater f = (line : ℕ) → line < 2 ^ 64 → IsFine line (f line)

record_later : (t : Taken) (f : ℕ → List Touch) → IsSaid t.says → IsLater f → IsLater (as_touches.of_record t f)
record_later t f said later = λ line less.
    fine_append line (passed_by line t.says.lines) _ _ (omega arith) (said_before line t.says said) (said_fine line t.says less said) (later (passed_by line t.says.lines) (omega arith))

none_later : IsLater (λ line. [])
none_later = λ line less. none_fine line

cond_later : (b : Bool) (f g : ℕ → List Touch) → IsLater f → IsLater g → IsLater (cond b f g)
cond_later true f g one two = one
cond_later false f g one two = two

then_later : (at : ℕ) (more : Taken → ℕ → List Touch) (o : Option Taken) → IfSome o (λ t. IsSaid t.says) → ((t : Taken) → IsLater (more t)) → IsLater (then_more as_touches at more o)
then_later at more None said later = none_later
then_later at more (Some t) said later = record_later t (more t) said (later t)

records_later : (n : ℕ) (behind : State → ℕ → List Touch) (p : Spot) (s : State) (bytes : List ℕ) → ((t : State) → IsLater (behind t)) → IsLater (records as_touches n behind p s bytes)
records_later zero behind p s bytes later = none_later
records_later (suc n) behind p s [] later = cond_later (p.found == p.count) _ _ (later s) none_later
records_later (suc n) behind p s (byte ∷ bytes) later =
    then_later p.at _ (take_record s (byte ∷ bytes)) (record_said s (byte ∷ bytes)) (λ t. records_later n behind (past p t.len) t.state (drop (t.len - 1) bytes) later)

content_later : (behind : State → List ℕ → ℕ → List Touch) (p : Spot) (len : ℕ) (s : State) (bytes : List ℕ) → ((t : State) (rest : List ℕ) → IsLater (behind t rest))
    → IsLater (content as_touches behind p len s bytes)
content_later behind p len s bytes later =
    cond_later (nat_lt (length bytes) len) _ _ none_later (cond_later (not (checksum p.block len p.count (take len bytes) == p.sum)) _ _ none_later
    (records_later (len + 1) (λ t. behind t (drop len bytes)) p (at_block s) (take len bytes) (λ t. later t (drop len bytes))))

blocks_later : (n block start : ℕ) (s : State) (bytes : List ℕ) → IsLater (blocks as_touches n block start s bytes)
blocks_later zero block start s bytes = none_later
blocks_later (suc n) block start s bytes =
    let len = number_in bytes 0 4 in
    cond_later s.ended _ _ (cond_later (length bytes == 0) _ _ none_later none_later) (cond_later (nat_lt (length bytes) 16) _ _ none_later (cond_later (is_bad_len len) _ _ none_later
    (content_later (blocks as_touches n (plus block 1) (plus start (16 + len))) (spot_at block start (take 16 bytes)) len s (drop 16 bytes) (λ t rest. blocks_later n (plus block 1) (plus start (16 + len)) t rest))))

all_blocks_later : (block start : ℕ) (s : State) (bytes : List ℕ) → IsLater (all_blocks as_touches block start s bytes)
unfolding all_blocks
all_blocks_later block start s bytes = blocks_later (length bytes + 1) block start s bytes

all_content_later : (p : Spot) (len : ℕ) (s : State) (bytes : List ℕ) → IsLater (all_content as_touches p len s bytes)
unfolding all_content
all_content_later p len s bytes =
    content_later (all_blocks as_touches (plus p.block 1) (plus p.start (16 + len))) p len s bytes (λ t rest. all_blocks_later (plus p.block 1) (plus p.start (16 + len)) t rest)

all_records_later : (end : ℕ) (p : Spot) (s : State) (bytes rest : List ℕ) → IsLater (all_records as_touches end p s bytes rest)
unfolding all_records
all_records_later end p s bytes rest = records_later (length bytes + 1) (λ t. all_blocks as_touches (plus p.block 1) end t rest) p s bytes (λ t. all_blocks_later (plus p.block 1) end t rest)

-- what is to be noted of what is not decoded yet
pub undecoded_later : (q : Phase) (d : Decoder) (rest : List ℕ) → IsLater (undecoded as_touches q d rest)
undecoded_later phase.Header d rest = all_blocks_later _ _ d.state _
undecoded_later phase.Content d rest = all_content_later d.spot _ d.state _
undecoded_later phase.Record d rest = all_records_later _ d.spot d.state _ rest
undecoded_later phase.Nothing d rest = none_later

-- what a trace says that its accesses touch
behind_fine : (bytes : List ℕ) → IsFine 2 (touches_behind bytes)
behind_fine bytes = blocks_later (length bytes + 1) 0 8 first_state bytes 2 (omega arith)

if_fine : (b : Bool) (xs : List Touch) → IsFine 2 xs → IsFine 2 (cond b xs [])
if_fine true xs fine = fine
if_fine false xs fine = none_fine 2

pub touches_fine : (bytes : List ℕ) → IsFine 2 (touches bytes)
touches_fine bytes = if_fine (bytes_eq (take 8 bytes) magic) (touches_behind (drop 8 bytes)) (behind_fine (drop 8 bytes))

-- What accesses touch: bytes of words, in the order of lines.
use Rattle.std.proofs.Common.{◌≡◌, ◌==◌, ◌||◌, ◌↔◌, ℕ, zero, suc, ◌+◌, ◌-◌, ◌*◌, ◌/◌, ◌%◌, ◌<◌, ◌≤◌, ◌^◌, min, Bool, true, false, cond, List, [], ◌∷◌, ◌++◌, All, drop, length, nat_lt, slice_index, Option, Some, None, IfSome, if◌then◌else◌, refl, arith}
use Rattle.std.specs.Option.{option_and_then}
use Rattle.std.proofs.lemmas.List.Elements.{All-append, All-cons, All-head, All-nil, All-tail, All-weaker}
use Rattle.er_binary.specs.Meaning.{Taken, take_record, take_said}
use Rattle.er_binary.specs.Records.{access_at, other_at, record_at, size_of}
use Rattle.er_binary.specs.States.{is_access}
use Rattle.er_binary.specs.Texts.{words_of}
use Rattle.er_binary.specs.Touches.{AreInOrder, AreOfWords, is_whole, passed_by, touch_at, touches_below, touches_said}
use Rattle.er_binary.specs.declared.records.Head.{Head}
use Rattle.er_binary.specs.declared.records.Record.{Record}
use Rattle.er_binary.specs.declared.records.Record.TheVariants as said
use Rattle.er_binary.specs.declared.state.State.{State}
use Rattle.er_binary.specs.declared.touches.Said.{Said}
use Rattle.er_lines.specs.declared.ready.Touch.{Touch}

-- of which bytes of a word an access is
touch_first : (address word i first : ℕ) → first ≡ address - word * 4 → first ≤ i → address ≤ 4 * word + i
touch_first address word i first is less = omega arith

touch_last : (address size word i : ℕ) → word * 4 < address + size → i ≤ min (address + size - (word * 4 + 1)) 3 → 4 * word + i < address + size
touch_last address size word i inside less = omega arith

touch_back : (address word i : ℕ) → address ≤ 4 * word + i → address - word * 4 ≤ i
touch_back address word i less = omega arith

touch_up : (address size word i : ℕ) → i < 4 → 4 * word + i < address + size → i ≤ min (address + size - (word * 4 + 1)) 3
touch_up address size word i below less = omega arith

word_begins : (address size k : ℕ) → 1 ≤ size → k < words_of address size → (address / 4 + k) * 4 < address + size
word_begins address size k one few = omega arith

pub touch_bytes : (address size line k i : ℕ) → 1 ≤ size → k < words_of address size → i < 4
    → ((address - (address / 4 + k) * 4 ≤ i) × (i ≤ min (address + size - ((address / 4 + k) * 4 + 1)) 3)) ↔ ((address ≤ 4 * (address / 4 + k) + i) × (4 * (address / 4 + k) + i < address + size))
touch_bytes address size line k i one few below = (
  λ h. (touch_first address (address / 4 + k) i _ refl h.0, touch_last address size (address / 4 + k) i (word_begins address size k one few) h.1),
  λ h. (touch_back address (address / 4 + k) i h.0, touch_up address size (address / 4 + k) i below h.1),
)

touch_word : (line k : ℕ) (s : Said) → 1 ≤ s.size → ((touch_at line s k).first ≤ (touch_at line s k).last) × ((touch_at line s k).last ≤ 3)
touch_word line k s one = (omega arith, omega arith)

-- each is of this line or of one behind it
abbrev pub AreFrom : ℕ → List Touch → Type 0
AreFrom line touches = All (λ touch. line ≤ touch.line) touches

none_from : (line : ℕ) → AreFrom line []
none_from line = All-nil (λ (touch : Touch). line ≤ touch.line)

further_from : (line later : ℕ) (touches : List Touch) → line ≤ later → AreFrom later touches → AreFrom line touches
further_from line later touches less all = All-weaker (λ (touch : Touch). later ≤ touch.line) (λ (touch : Touch). line ≤ touch.line) (λ touch behind. omega arith) touches all

-- of words and in order, from this line on
pub record IsFine (line : ℕ) (touches : List Touch) : Type 0 where
  pub from : AreFrom line touches
  pub words : AreOfWords touches
  pub order : AreInOrder touches

-- before this line
abbrev AreBefore : ℕ → List Touch → Type 0
AreBefore line touches = All (λ t. passed_by t.line 1 ≤ line) touches

no_words : AreOfWords []
no_words = All-nil (λ (t : Touch). (t.first ≤ t.last) × (t.last ≤ 3))

none_before : (line : ℕ) → AreBefore line []
none_before line = All-nil (λ (t : Touch). passed_by t.line 1 ≤ line)

pub none_fine : (line : ℕ) → IsFine line []
none_fine line = record { from = none_from line; words = no_words; order = tt }

order_append : (line : ℕ) (xs ys : List Touch) → AreBefore line xs → AreFrom line ys → AreInOrder xs → AreInOrder ys → AreInOrder (xs ++ ys)
order_append line [] ys before from one two = two
order_append line (x ∷ xs) ys before from one two = (
  All-append (λ (more : Touch). passed_by x.line 1 ≤ more.line) xs ys one.0 (further_from (passed_by x.line 1) line ys (All-head (λ (t : Touch). passed_by t.line 1 ≤ line) x xs before) from),
  order_append line xs ys (All-tail (λ (t : Touch). passed_by t.line 1 ≤ line) x xs before) from one.1 two,
)

pub fine_append : (line behind : ℕ) (xs ys : List Touch) → line ≤ behind → AreBefore behind xs → IsFine line xs → IsFine behind ys → IsFine line (xs ++ ys)
fine_append line behind xs ys less before one two = record {
  from = All-append (λ (t : Touch). line ≤ t.line) xs ys one.from (further_from line behind ys less two.from);
  words = All-append (λ (t : Touch). (t.first ≤ t.last) × (t.last ≤ 3)) xs ys one.words two.words;
  order = order_append behind xs ys before two.from one.order two.order;
}

-- one word
part_fine : (b : Bool) (t : Touch) → (t.first ≤ t.last) × (t.last ≤ 3) → IsFine t.line (cond b [] (t ∷ []))
part_fine true t word = none_fine t.line
part_fine false t word = record {
  from = All-cons (λ (more : Touch). t.line ≤ more.line) t [] (omega arith) (none_from t.line);
  words = All-cons (λ (more : Touch). (more.first ≤ more.last) × (more.last ≤ 3)) t [] word no_words;
  order = (none_from (passed_by t.line 1), tt);
}

part_before : (line : ℕ) (b : Bool) (t : Touch) → passed_by t.line 1 ≤ line → AreBefore line (cond b [] (t ∷ []))
part_before line true t less = none_before line
part_before line false t less = All-cons (λ (more : Touch). passed_by more.line 1 ≤ line) t [] less (none_before line)

before_more : (line later : ℕ) (touches : List Touch) → line ≤ later → AreBefore line touches → AreBefore later touches
before_more line later touches less all = All-weaker (λ (t : Touch). passed_by t.line 1 ≤ line) (λ (t : Touch). passed_by t.line 1 ≤ later) (λ t before. omega arith) touches all

below_before : (line : ℕ) (s : Said) (k : ℕ) → AreBefore (passed_by line k) (touches_below line s k)
below_before line s zero = none_before (passed_by line 0)
below_before line s (suc k) =
    All-append (λ (t : Touch). passed_by t.line 1 ≤ passed_by line (suc k)) _ _ (before_more (passed_by line k) (passed_by line (suc k)) _ (omega arith) (below_before line s k))
    (part_before (passed_by line (suc k)) (is_whole (touch_at (passed_by line k) s k)) (touch_at (passed_by line k) s k) (omega arith))

below_fine : (line : ℕ) (s : Said) (k : ℕ) → line < 2 ^ 64 → (1 ≤ k → 1 ≤ s.size) → IsFine line (touches_below line s k)
below_fine line s zero less sized = none_fine line
below_fine line s (suc k) less sized =
    let one : 1 ≤ s.size = sized (omega arith) in
    fine_append line (passed_by line k) _ _ (omega arith) (below_before line s k) (below_fine line s k less (λ some. one))
    (part_fine (is_whole (touch_at (passed_by line k) s k)) (touch_at (passed_by line k) s k) (touch_word (passed_by line k) k s one))

-- what a record says has a line for each word, and bytes if it has words
abbrev pub IsSaid : Said → Type 0
IsSaid s = (s.words ≤ s.lines) × (1 ≤ s.words → 1 ≤ s.size)

words_before : (line : ℕ) (s : Said) → s.words ≤ s.lines → AreBefore (passed_by line s.lines) (touches_said line s)
unfolding touches_said
words_before line s less = before_more (passed_by line s.words) (passed_by line s.lines) _ (omega arith) (below_before line s s.words)

pub said_before : (line : ℕ) (s : Said) → IsSaid s → AreBefore (passed_by line s.lines) (touches_said line s)
said_before line s is = words_before line s is.0

pub said_fine : (line : ℕ) (s : Said) → line < 2 ^ 64 → IsSaid s → IsFine line (touches_said line s)
unfolding touches_said
said_fine line s less is = below_fine line s s.words less is.1

-- an access that is read has bytes
abbrev HasBytes : Record → Type 0
HasBytes (said.Access a) = 1 ≤ a.size
HasBytes (said.Other k n) = Unit {0}

either_if : {X : Type 0} (P : X → Type 0) (b : Bool) (x y : Option X) → IfSome x P → IfSome y P → IfSome (if b then x else y) P
either_if P true x y one two = one
either_if P false x y one two = two

else_if : {X : Type 0} (P : X → Type 0) (b : Bool) (x : X) → (b ≡ false → P x) → IfSome (if b then None else Some x) P
else_if P true x holds = tt
else_if P false x holds = holds refl

some_size : (size : ℕ) → ((size == 0) || nat_lt 16 size) ≡ false → 1 ≤ size
some_size zero other = absurd (cc other)
some_size (suc n) other = omega arith

size_read : (size : ℕ) (writes : Bool) (distance : ℕ) (n : Option ℕ) (len : ℕ)
    → IfSome (if (size == 0) || nat_lt 16 size then None else Some (record { says = said.Access (record { writes = writes; size = size; distance = distance; node = n }); len = len })) (λ (head : Head). HasBytes head.says)
size_read size writes distance n len = else_if (λ (head : Head). HasBytes head.says) ((size == 0) || nat_lt 16 size) _ (some_size size)

access_read : (tag : ℕ) (bytes : List ℕ) → IfSome (access_at tag bytes) (λ head. HasBytes head.says)
access_read tag bytes = either_if (λ (head : Head). HasBytes head.says) _ None _ tt (size_read (size_of (tag / 16 % 4) (slice_index bytes 1)) _ _ _ _)

other_read : (tag : ℕ) (bytes : List ℕ) → IfSome (other_at tag bytes) (λ head. HasBytes head.says)
other_read tag bytes = either_if (λ (head : Head). HasBytes head.says) _ None (Some _) tt tt

head_read : (bytes : List ℕ) → IfSome (record_at bytes) (λ head. HasBytes head.says)
head_read bytes =
    let tag = slice_index bytes 0 in
    either_if (λ (head : Head). HasBytes head.says) (length bytes == 0) None (if nat_lt tag 128 then access_at tag bytes else other_at tag bytes) tt
    (either_if (λ (head : Head). HasBytes head.says) (nat_lt tag 128) (access_at tag bytes) (other_at tag bytes) (access_read tag bytes) (other_read tag bytes))

take_said_said : (s : State) (len : ℕ) (rest : List ℕ) (r : Record) → HasBytes r → IfSome (take_said s len rest r) (λ t. IsSaid t.says)
take_said_said s len rest (said.Access a) has = either_if (λ (t : Taken). IsSaid t.says) (is_access s a) (Some _) None (omega arith, λ some. has) tt
take_said_said s len rest (said.Other k n) has = either_if (λ (t : Taken). IsSaid t.says) _ None (Some _) tt (omega arith, λ some. absurd (omega arith))

take_head : (s : State) (bytes : List ℕ) (o : Option Head) → IfSome o (λ head. HasBytes head.says)
    → IfSome (option_and_then (λ head. take_said s head.len (drop head.len bytes) head.says) o) (λ t. IsSaid t.says)
take_head s bytes None has = tt
take_head s bytes (Some head) has = take_said_said s head.len (drop head.len bytes) head.says has

pub record_said : (s : State) (bytes : List ℕ) → IfSome (take_record s bytes) (λ t. IsSaid t.says)
unfolding take_record
record_said s bytes = take_head s bytes (record_at bytes) (head_read bytes)

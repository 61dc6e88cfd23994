-- The line feeds of the text of a record.
use Rattle.std.proofs.Common.{◌≡◌, ◌==◌, ◌&&◌, ◌||◌, ◌⊎◌, ℕ, zero, suc, ◌+◌, ◌*◌, ◌/◌, ◌%◌, ◌<◌, Bool, true, false, not, cond, nat_le, nat_lt, List, [], ◌∷◌, ◌++◌, count_by, codes, decimal, drop, length, take, unwrap_or, Option, Some, None, IfSome, if◌then◌else◌, refl, sym, ap, ◌∙◌, arith, drop-drop, inl, inr}
use Rattle.std.specs.Char.{digit_char}
use Rattle.std.specs.Fmt.{digit_glyph, digits, digits_onto}
use Rattle.std.specs.List.{list_all}
use Rattle.std.specs.Option.{option_and_then}
use Rattle.std.specs.Str.{bytes_eq}
use Rattle.std.proofs.lemmas.Bool.{and_parts}
use Rattle.std.proofs.lemmas.Bool.Decides.{nat_tests}
use Rattle.std.proofs.lemmas.List.Sums.{sum_by-append, sum_by-cons}
use Rattle.er_lines.specs.Lines.{has_bytes, is_end}
use Rattle.er_lines.specs.Naming.{is_lock_name, is_name, is_name_byte, is_site_byte, is_site_name}
use Rattle.er_lines.specs.Number.{hex_digits}
use Rattle.er_binary.specs.Inner.Words.{AreNamed}
use Rattle.er_binary.specs.Meaning.{Taken, take_record, take_said}
use Rattle.er_binary.specs.Nodes.{node_at}
use Rattle.er_binary.specs.Numbers.{address_word, name_at, number}
use Rattle.er_binary.specs.Records.{body_len, record_at}
use Rattle.er_binary.specs.States.{address_of, after, is_access, is_note_byte, is_place, is_right, may_come, node_of}
use Rattle.er_binary.specs.Texts.{access_lines, access_verb, feed, site, text_of, thread_does, word, words_of}
use Rattle.er_binary.specs.Touches.{lines_of}
use Rattle.er_binary.specs.declared.records.Head.{Head}
use Rattle.er_binary.specs.declared.records.Kind.{Kind}
use Rattle.er_binary.specs.declared.records.Kind.TheVariants as kind
use Rattle.er_binary.specs.declared.records.Record.{Record}
use Rattle.er_binary.specs.declared.records.Record.TheVariants as said
use Rattle.er_binary.specs.declared.state.State.{State}
use Rattle.er_binary.proofs.WordsLaws.{after_named}

abbrev pub feeds : List ℕ → ℕ
feeds bytes = count_by is_end bytes

feeds_one : (byte : ℕ) (bytes : List ℕ) → feeds (byte ∷ bytes) ≡ cond (is_end byte) 1 0 + feeds bytes
feeds_one byte bytes = sum_by-cons (λ x. cond (is_end x) 1 0) byte bytes

pub feeds_two : (a b : List ℕ) → feeds (a ++ b) ≡ feeds a + feeds b
feeds_two a b = sum_by-append (λ x. cond (is_end x) 1 0) a b

-- another byte in front
other_first : (byte : ℕ) (bytes : List ℕ) → is_end byte ≡ false → feeds (byte ∷ bytes) ≡ feeds bytes
other_first byte bytes other = let same : feeds (byte ∷ bytes) ≡ 0 + feeds bytes = feeds_one byte bytes ∙ ap (λ (b : Bool). cond b 1 0 + feeds bytes) other in omega (arith, same)

-- bytes that pass a test that a line feed doesn't pass
none_passed : (p : ℕ → Bool) (bytes : List ℕ) → ((b : ℕ) → p b ≡ true → is_end b ≡ false) → list_all p bytes ≡ true → feeds bytes ≡ 0
none_passed p [] other all = refl
none_passed p (b ∷ bytes) other all =
    let both = and_parts (p b) (list_all p bytes) all in
    other_first b bytes (other b both.0) ∙ none_passed p bytes other both.1

name_other : (b : ℕ) → is_name_byte b ≡ true → is_end b ≡ false
name_other b e = grind (arith, nat_tests, e)

site_other : (b : ℕ) → is_site_byte b ≡ true → is_end b ≡ false
site_other b e = grind (arith, nat_tests, e)

note_other : (b : ℕ) → is_note_byte b ≡ true → is_end b ≡ false
note_other b e = grind (arith, nat_tests, e)

digit_other : (d : ℕ) → d < 16 → is_end (digit_char d) ≡ false
digit_other d less = grind (arith, nat_tests, less)

-- names of each kind
name_feeds : (w : List ℕ) → is_name w ≡ true → feeds w ≡ 0
name_feeds w is = none_passed is_name_byte w name_other (and_parts (has_bytes w && nat_le (length w) 128) (list_all is_name_byte w) is).1

lock_feeds : (w : List ℕ) → is_lock_name w ≡ true → feeds w ≡ 0
lock_feeds w is = name_feeds w (and_parts (is_name w) (not (bytes_eq w (codes "none"))) is).0

place_feeds : (w : List ℕ) → is_place w ≡ true → feeds w ≡ 0
place_feeds w is =
    let both = and_parts (not (bytes_eq w (codes "-"))) (is_site_name w) is in
    none_passed is_site_byte w site_other (and_parts (has_bytes w && nat_le (length w) 128) (list_all is_site_byte w) both.1).1

at_feeds : (p : List ℕ → Bool) (names : List (List ℕ)) (n : ℕ) → ((w : List ℕ) → p w ≡ true → feeds w ≡ 0) → list_all p names ≡ true → feeds (name_at names n) ≡ 0
at_feeds p [] n none all = refl
at_feeds p (w ∷ ws) zero none all = none w (and_parts (p w) (list_all p ws) all).0
at_feeds p (w ∷ ws) (suc n) none all = at_feeds p ws n none (and_parts (p w) (list_all p ws) all).1

-- numbers
hex_feeds : (k n : ℕ) → feeds (hex_digits k n) ≡ 0
unfolding hex_digits
hex_feeds zero n = refl
hex_feeds (suc k) n =
    let last : feeds (digit_char (n % 16) ∷ []) ≡ 0 = other_first (digit_char (n % 16)) [] (digit_other (n % 16) (omega arith)) in
    omega (arith, feeds_two (hex_digits k (n / 16)) (digit_char (n % 16) ∷ []), hex_feeds k (n / 16), last)

either_feeds : (b : Bool) (x y : List ℕ) (count : ℕ) → feeds x ≡ count → feeds y ≡ count → feeds (if b then x else y) ≡ count
either_feeds true x y count one two = one
either_feeds false x y count one two = two

glyph_other : (d : ℕ) → d < 10 → is_end (digit_glyph false d) ≡ false
glyph_other d less = grind (arith, nat_tests, less)

onto_feeds : (k n : ℕ) (more : List ℕ) → feeds (digits_onto k 10 false n more) ≡ feeds more
onto_feeds zero n more = refl
onto_feeds (suc k) n more =
    let first : feeds (digit_glyph false (n % 10) ∷ more) ≡ feeds more = other_first (digit_glyph false (n % 10)) more (glyph_other (n % 10) (omega arith)) in
    either_feeds (n / 10 == 0) _ (digits_onto k 10 false (n / 10) (digit_glyph false (n % 10) ∷ more)) (feeds more) first (onto_feeds k (n / 10) (digit_glyph false (n % 10) ∷ more) ∙ first)

decimal_feeds : (n : ℕ) → feeds (decimal n) ≡ 0
unfolding digits
decimal_feeds n = onto_feeds 64 n []

-- words
pub word_feeds : (w : List ℕ) → feeds w ≡ 0 → feeds (word w) ≡ 0
word_feeds w none = other_first 32 w refl ∙ none

two_none : (a b : List ℕ) → feeds a ≡ 0 → feeds b ≡ 0 → feeds (a ++ b) ≡ 0
two_none a b one two = omega (arith, feeds_two a b, one, two)

address_feeds : (address : ℕ) → feeds (address_word address) ≡ 0
address_feeds address = two_none (codes " 0x") (hex_digits 12 address) refl (hex_feeds 12 address)

does_feeds : (s : State) (v : List ℕ) → AreNamed s → feeds v ≡ 0 → feeds (thread_does s v) ≡ 0
does_feeds s v named none = two_none (name_at s.threads (unwrap_or s.thread 0)) (word v) (at_feeds is_name s.threads (unwrap_or s.thread 0) name_feeds named.0) (word_feeds v none)

site_feeds : (s : State) (node : ℕ) → AreNamed s → feeds (site s node) ≡ 0
site_feeds s node named =
    let place = (node_at s.nodes (node_at s.nodes node).shown).place in
    either_feeds (node == 0) [] (word (name_at s.places place)) 0 refl (word_feeds (name_at s.places place) (at_feeds is_place s.places place place_feeds named.2))

-- a line
line_feeds : (a b : List ℕ) → feeds a ≡ 0 → feeds b ≡ 0 → feeds (a ++ b ++ feed) ≡ 1
line_feeds a b one two = feeds_two (a ++ b) feed ∙ ap (λ (n : ℕ). n + 1) (two_none a b one two)

-- an access has one for each word
words_feeds : (s : State) (v : List ℕ) (node first count : ℕ) → AreNamed s → feeds v ≡ 0 → feeds (access_lines s v node first count) ≡ count
unfolding access_lines
words_feeds s v node first zero named none = refl
words_feeds s v node first (suc count) named none =
    let does = thread_does s v in
    let address = address_word (4 * first) in
    let rest = access_lines s v node (first + 1) count in
    let front : feeds (does ++ address) ≡ 0 = two_none does address (does_feeds s v named none) (address_feeds (4 * first)) in
    let line : feeds (does ++ address ++ site s node ++ feed) ≡ 1 = line_feeds (does ++ address) (site s node) front (site_feeds s node named) in
    let all : feeds ((does ++ address ++ site s node ++ feed) ++ rest) ≡ feeds (does ++ address ++ site s node ++ feed) + feeds rest = feeds_two (does ++ address ++ site s node ++ feed) rest in
    omega (arith, all, line, words_feeds s v node (first + 1) count named none)

verb_feeds : (writes : Bool) → feeds (if writes then codes "write" else codes "read") ≡ 0
verb_feeds true = refl
verb_feeds false = refl

-- another event
event_feeds : (s : State) (v behind : List ℕ) → AreNamed s → feeds v ≡ 0 → feeds behind ≡ 0 → feeds (thread_does s v ++ behind ++ feed) ≡ 1
event_feeds s v behind named none other = line_feeds (thread_does s v) behind (does_feeds s v named none) other

lock_event : (s : State) (v : List ℕ) (n : ℕ) → AreNamed s → feeds v ≡ 0 → feeds (thread_does s v ++ word (name_at s.locks n) ++ feed) ≡ 1
lock_event s v n named none = event_feeds s v (word (name_at s.locks n)) named none (word_feeds (name_at s.locks n) (at_feeds is_lock_name s.locks n lock_feeds named.1))

thread_event : (s : State) (v : List ℕ) (n : ℕ) → AreNamed s → feeds v ≡ 0 → feeds (thread_does s v ++ word (name_at s.threads n) ++ feed) ≡ 1
thread_event s v n named none = event_feeds s v (word (name_at s.threads n)) named none (word_feeds (name_at s.threads n) (at_feeds is_name s.threads n name_feeds named.0))

reuse_event : (s : State) (n : ℕ) (body : List ℕ) → AreNamed s → feeds (thread_does s (codes "reuse") ++ (address_word (number body) ++ word (decimal n) ++ site s s.node) ++ feed) ≡ 1
reuse_event s n body named =
    let front = two_none (address_word (number body)) (word (decimal n)) (address_feeds (number body)) (word_feeds (decimal n) (decimal_feeds n)) in
    event_feeds s (codes "reuse") (address_word (number body) ++ word (decimal n) ++ site s s.node) named refl (two_none (address_word (number body) ++ word (decimal n)) (site s s.node) front (site_feeds s s.node named))

note_line : (body : List ℕ) → list_all is_note_byte body ≡ true → feeds (codes "# " ++ body ++ feed) ≡ 1
note_line body are = line_feeds (codes "# ") body refl (none_passed is_note_byte body note_other are)

-- a record has as many as it says lines. Or it is the end, and the block has nothing behind it
abbrev pub IsCounted : State → Kind → ℕ → List ℕ → List ℕ → Type 0
IsCounted s k n body behind = (feeds (text_of s k n body) ≡ lines_of k) ⊎ ((k ≡ kind.End) × (length behind ≡ 0))

kind_counted : (s : State) (k : Kind) (n : ℕ) (body behind : List ℕ) → AreNamed s → is_right s k n body behind ≡ true → IsCounted s k n body behind
kind_counted s kind.Thread n body behind named right = inl refl
kind_counted s kind.Node n body behind named right = inl refl
kind_counted s kind.FailedTry n body behind named right = inl refl
kind_counted s kind.Flow n body behind named right = inl refl
kind_counted s kind.ThreadName n body behind named right = inl refl
kind_counted s kind.LockName n body behind named right = inl refl
kind_counted s kind.Place n body behind named right = inl refl
kind_counted s kind.NewNode n body behind named right = inl refl
kind_counted s kind.Fact n body behind named right = inl refl
kind_counted s kind.Lost n body behind named right = inl refl
kind_counted s kind.Lock n body behind named right = inl (lock_event s (codes "lock") n named refl)
kind_counted s kind.Unlock n body behind named right = inl (lock_event s (codes "unlock") n named refl)
kind_counted s kind.ReadLock n body behind named right = inl (lock_event s (codes "rlock") n named refl)
kind_counted s kind.ReadUnlock n body behind named right = inl (lock_event s (codes "runlock") n named refl)
kind_counted s kind.Signal n body behind named right = inl (lock_event s (codes "signal") n named refl)
kind_counted s kind.Await n body behind named right = inl (lock_event s (codes "await") n named refl)
kind_counted s kind.Start n body behind named right = inl (thread_event s (codes "start") n named refl)
kind_counted s kind.Join n body behind named right = inl (thread_event s (codes "join") n named refl)
kind_counted s kind.IgnoreOn n body behind named right = inl (event_feeds s (codes "ignore-on") [] named refl refl)
kind_counted s kind.IgnoreOff n body behind named right = inl (event_feeds s (codes "ignore-off") [] named refl refl)
kind_counted s kind.Reuse n body behind named right = inl (reuse_event s n body named)
kind_counted s kind.Show n body behind named right = inl (event_feeds s (codes "show") (address_word n) named refl (address_feeds n))
kind_counted s kind.Level n body behind named right = inl (event_feeds s (codes "level") (word (decimal n)) named refl (word_feeds (decimal n) (decimal_feeds n)))
kind_counted s kind.Note n body behind named right = inl (note_line body (and_parts (nat_le (length body) 1000) (list_all is_note_byte body) right).1)
kind_counted s kind.End n body behind named right = inr (refl, (let both = and_parts _ (length behind == 0) right in grind (arith, nat_tests, both.1)))

-- so it is of what was taken; and names stay names
pub record IsLined (t : Taken) (rest : List ℕ) : Type 0 where
  pub named : AreNamed t.state
  pub lines : (feeds t.text ≡ t.says.lines) ⊎ ((t.state.ended ≡ true) × (length rest ≡ 0))

some_if : {X : Type 0} (P : X → Type 0) (b : Bool) (x : X) → (b ≡ true → P x) → IfSome (if b then Some x else None) P
some_if P true x holds = holds refl
some_if P false x holds = tt

none_if : {X : Type 0} (P : X → Type 0) (b : Bool) (x : X) → (b ≡ false → P x) → IfSome (if b then None else Some x) P
none_if P true x holds = tt
none_if P false x holds = holds refl

or_false : (a b : Bool) → (a || not b) ≡ false → b ≡ true
or_false true b is = absurd (cc is)
or_false false true is = refl
or_false false false is = absurd (cc is)

other_lined : (s : State) (k : Kind) (n len : ℕ) (body behind : List ℕ) (t : Taken) → AreNamed s → is_right s k n body behind ≡ true → IsCounted s k n body behind
    → t.text ≡ text_of s k n body → t.state ≡ after s k n body → t.says.lines ≡ lines_of k → IsLined t behind
other_lined s k n len body behind t named right (inl same) text state lines = record { named = rw state (after_named s k n body behind right named); lines = inl (ap feeds text ∙ same ∙ sym lines) }
other_lined s k n len body behind t named right (inr is) text state lines =
    record { named = rw state (after_named s k n body behind right named); lines = inr (ap (λ (u : State). u.ended) (state ∙ ap (λ (l : Kind). after s l n body) is.0), is.1) }

said_lined : (s : State) (len : ℕ) (all : List ℕ) (r : Record) → AreNamed s → IfSome (take_said s len (drop len all) r) (λ t. IsLined t (drop t.len all))
said_lined s len all (said.Access a) named = some_if _ (is_access s a) _ (λ may. record {
  named = named;
  lines = inl (words_feeds s (access_verb a) (node_of s a) (address_of s a / 4) (words_of (address_of s a) a.size) named (verb_feeds a.writes));
})
said_lined s len all (said.Other k n) named =
    let rest = drop len all in
    let size = body_len k n in
    let body = take size rest in
    let behind = drop size rest in
    none_if _ (nat_lt (length rest) size || not (may_come s k n body behind)) _ (λ may.
    let comes = or_false (nat_lt (length rest) size) (may_come s k n body behind) may in
    let right = (and_parts _ (is_right s k n body behind) comes).1 in
    rw (← drop-drop size len all) (other_lined s k n len body behind _ named right (kind_counted s k n body behind named right) refl refl refl))

head_lined : (s : State) (all : List ℕ) (o : Option Head) → AreNamed s → IfSome (option_and_then (λ head. take_said s head.len (drop head.len all) head.says) o) (λ t. IsLined t (drop t.len all))
head_lined s all None named = tt
head_lined s all (Some head) named = said_lined s head.len all head.says named

pub record_lined : (s : State) (all : List ℕ) → AreNamed s → IfSome (take_record s all) (λ t. IsLined t (drop t.len all))
unfolding take_record
record_lined s all named = head_lined s all (record_at all) named

-- A line that was never made as text: what its text is made of, how long it is, and that it is the next line.
use Rattle.std.proofs.Common.{◌≡◌, ℕ, zero, suc, ◌+◌, ◌*◌, ◌/◌, ◌%◌, ◌^◌, ◌==◌, ◌<◌, ◌≤◌, Bool, true, false, not, ◌&&◌, ◌||◌, cond, List, [], ◌∷◌, ◌++◌, length, nat_lt, nat_le, nat_eq, codes, Option, Some, None, refl, sym, ap, ◌∙◌, subst, append_assoc, arith}
use Rattle.std.specs.Char.{digit_char, digit_value, is_digit}
use Rattle.std.specs.Io.KnownBytes.{Consumes, Keeps}
use Rattle.std.specs.List.{list_all}
use Rattle.std.specs.Str.{bytes_eq}
use Rattle.std.specs.Str.Parse.{digits_value}
use Rattle.std.proofs.Math.Nat.{pow-suc}
use Rattle.std.proofs.lemmas.Bool.{and_parts}
use Rattle.std.proofs.lemmas.Bool.Decides.{nat_tests}
use Rattle.std.proofs.lemmas.Int.Digits.{digits_value_push}
use Rattle.std.proofs.lemmas.List.{length-append}
use Rattle.std.proofs.lemmas.List.Folds.{list_all-append}
use Rattle.std.proofs.lemmas.List.Sums.{AllPass-from_list_all, list_all-from_AllPass}
use Rattle.std.proofs.lemmas.Str.{digit_value-digit_char}
use Rattle.er_lines.specs.Lending.{LineThen, lines_left, limit_fault}
use Rattle.er_lines.specs.Lines.{Line, has_bytes, is_end, lines_of, onto_line, placed_from, width}
use Rattle.er_lines.specs.Naming.{is_name, is_name_byte, is_lock_name, is_site_name, is_site_byte}
use Rattle.er_lines.specs.Number.{hex_digits}
use Rattle.er_lines.specs.Places.{Place}
use Rattle.er_lines.specs.Ready.{IsRight, are_operands, is_maybe_site, is_ready, name_word, operand_name, operands_text, ready_text, thread_name, verb_text, words_text}
use Rattle.er_lines.specs.Taking.{TakesLine, TakesLines, past_unread, ready_bytes, ready_placed}
use Rattle.er_lines.specs.declared.ready.NameKind.{NameKind}
use Rattle.er_lines.specs.declared.ready.ReadyLine.{ReadyLine}
use Rattle.er_lines.specs.declared.ready.ReadyVerb.{ReadyVerb}
use Rattle.er_lines.specs.declared.ready.ReadyVerb.TheVariants as does

-- hexadecimal digits write their number
pub record IsHex (count n : ℕ) : Type 0 where
  pub size : length (hex_digits count n) ≡ count
  pub digits : list_all (λ d. is_digit d 16) (hex_digits count n) ≡ true
  pub value : digits_value 16 (hex_digits count n) ≡ n

pub hex_is : (count n : ℕ) → n < 16 ^ count → IsHex count n
unfolding hex_digits
hex_is zero n small = record { size = refl; digits = refl; value = omega arith }
hex_is (suc k) n small =
    let whole : 16 ^ suc k ≡ 16 ^ k * 16 = pow-suc 16 k in
    let front : IsHex k (n / 16) = hex_is k (n / 16) (omega (arith, small, whole)) in
    let last : digit_value (digit_char (n % 16)) ≡ n % 16 = digit_value-digit_char (n % 16) (omega arith) in
    let test : is_digit (digit_char (n % 16)) 16 ≡ true = let low : digit_value (digit_char (n % 16)) < 16 = omega (arith, last) in grind (arith, nat_tests, low) in
    record {
      size = omega (arith, front.size, length-append (hex_digits k (n / 16)) (digit_char (n % 16) ∷ []));
      digits = list_all-append (λ d. is_digit d 16) (hex_digits k (n / 16)) (digit_char (n % 16) ∷ []) ∙ (rw (front.digits, test) refl);
      value = digits_value_push 16 (hex_digits k (n / 16)) (digit_char (n % 16)) ∙ omega (arith, front.value, last);
    }

-- bytes from a space to `~`, at most so many
abbrev is_shown : ℕ → Bool
is_shown byte = nat_le 32 byte && nat_le byte 126

record IsPiece (n : ℕ) (bytes : List ℕ) : Type 0 where
  few : length bytes ≤ n
  shown : list_all is_shown bytes ≡ true

pieces : (m n : ℕ) (a b : List ℕ) → IsPiece m a → IsPiece n b → IsPiece (m + n) (a ++ b)
pieces m n a b first second = record { few = omega (arith, length-append a b, first.few, second.few); shown = list_all-append is_shown a b ∙ (rw (first.shown, second.shown) refl) }

all_shown : (p : ℕ → Bool) (bytes : List ℕ) → ((b : ℕ) → p b ≡ true → is_shown b ≡ true) → list_all p bytes ≡ true → list_all is_shown bytes ≡ true
all_shown p bytes means all = list_all-from_AllPass is_shown bytes (λ i d h. means _ (AllPass-from_list_all p bytes all i d h))

digit_shown : (b : ℕ) → is_digit b 16 ≡ true → is_shown b ≡ true
digit_shown b e = grind (arith, nat_tests, e)

name_shown : (b : ℕ) → is_name_byte b ≡ true → is_shown b ≡ true
name_shown b e = grind (arith, nat_tests, e)

site_shown : (b : ℕ) → is_site_byte b ≡ true → is_shown b ≡ true
site_shown b e = grind (arith, nat_tests, e)

name_piece : (w : List ℕ) → is_name w ≡ true → IsPiece 128 w
name_piece w name =
    let p = and_parts (has_bytes w && nat_le (length w) 128) (list_all is_name_byte w) name in
    let q = and_parts (has_bytes w) (nat_le (length w) 128) p.0 in
    record { few = grind (arith, nat_tests, q.1); shown = all_shown is_name_byte w name_shown p.1 }

site_piece : (w : List ℕ) → is_site_name w ≡ true → IsPiece 128 w
site_piece w name =
    let p = and_parts (has_bytes w && nat_le (length w) 128) (list_all is_site_byte w) name in
    let q = and_parts (has_bytes w) (nat_le (length w) 128) p.0 in
    record { few = grind (arith, nat_tests, q.1); shown = all_shown is_site_byte w site_shown p.1 }

or_right : (a b : Bool) → a ≡ true → (not a || b) ≡ true → b ≡ true
or_right true b some e = e
or_right false b some e = absurd (cc)

is_other : (b : Bool) → not b ≡ true → b ≡ false
is_other true e = absurd (cc)
is_other false e = refl

-- a site that is there is a site's name, and not `-`
pub site_right : (w : List ℕ) → has_bytes w ≡ true → is_maybe_site w ≡ true → (is_site_name w ≡ true) × (bytes_eq w (codes "-") ≡ false)
site_right w some right =
    let p = and_parts (not (bytes_eq w (codes "-"))) (is_site_name w) (or_right (has_bytes w) (not (bytes_eq w (codes "-")) && is_site_name w) some right) in
    (p.1, is_other (bytes_eq w (codes "-")) p.0)

maybe_site : (b : Bool) (w : List ℕ) → has_bytes w ≡ b → is_maybe_site w ≡ true → IsPiece 129 (cond b (32 ∷ w) [])
maybe_site true w some right = let is = site_piece w (site_right w some right).0 in record { few = omega (arith, is.few); shown = is.shown }
maybe_site false w none right = record { few = omega arith; shown = refl }

-- what stands behind the verb of an access
pub record IsReadyAccess (address : ℕ) (site : List ℕ) : Type 0 where
  pub small : address < 2 ^ 48
  pub site_is : is_maybe_site site ≡ true

pub access_parts : (address : ℕ) (site : List ℕ) → ((address % 4 == 0) && nat_lt address (2 ^ 48) && is_maybe_site site) ≡ true → IsReadyAccess address site
access_parts address site right =
    let p = and_parts ((address % 4 == 0) && nat_lt address (2 ^ 48)) (is_maybe_site site) right in
    let q = and_parts (address % 4 == 0) (nat_lt address (2 ^ 48)) p.0 in
    record { small = grind (arith, nat_tests, q.1); site_is = p.1 }

pub access_hex : (address : ℕ) → address < 2 ^ 48 → IsHex 12 address
access_hex address small = hex_is 12 address (let most : 16 ^ 12 ≡ 2 ^ 48 = refl in omega (arith, small, most))

access_piece : (address : ℕ) (site : List ℕ) → IsReadyAccess address site → IsPiece 144 ((codes " 0x" ++ hex_digits 12 address) ++ name_word site)
access_piece address site is =
    let hex = access_hex address is.small in
    let digits = all_shown (λ d. is_digit d 16) (hex_digits 12 address) digit_shown hex.digits in
    pieces 15 129 (codes " 0x" ++ hex_digits 12 address) (name_word site) (record { few = omega (arith, hex.size); shown = digits }) (maybe_site (has_bytes site) site refl is.site_is)

pub lock_is_name : (w : List ℕ) → is_lock_name w ≡ true → is_name w ≡ true
lock_is_name w e = (and_parts (is_name w) (not (bytes_eq w (codes "none"))) e).0

lock_piece : (w : List ℕ) → is_lock_name w ≡ true → IsPiece 144 (32 ∷ w)
lock_piece w lock = let is = name_piece w (lock_is_name w lock) in record { few = omega (arith, is.few); shown = is.shown }

operands_piece : (v : ReadyVerb) (address : ℕ) (name : List ℕ) → are_operands v address name ≡ true → IsPiece 144 (operands_text v address name)
operands_piece does.Read address name right = access_piece address name (access_parts address name right)
operands_piece does.Write address name right = access_piece address name (access_parts address name right)
operands_piece does.Lock address name right = lock_piece name right
operands_piece does.Unlock address name right = lock_piece name right
operands_piece does.ReadLock address name right = lock_piece name right
operands_piece does.ReadUnlock address name right = lock_piece name right

verb_piece : (v : ReadyVerb) → IsPiece 8 (32 ∷ verb_text v)
verb_piece does.Read = record { few = omega arith; shown = refl }
verb_piece does.Write = record { few = omega arith; shown = refl }
verb_piece does.Lock = record { few = omega arith; shown = refl }
verb_piece does.Unlock = record { few = omega arith; shown = refl }
verb_piece does.ReadLock = record { few = omega arith; shown = refl }
verb_piece does.ReadUnlock = record { few = omega arith; shown = refl }

-- its thread is a name, and what stands behind its verb is right
pub ready_parts : (v : ReadyVerb) (address : ℕ) (thread name : List ℕ) → is_ready v address thread name ≡ true → (is_name thread ≡ true) × (are_operands v address name ≡ true)
unfolding is_ready
ready_parts v address thread name right = and_parts (is_name thread) (are_operands v address name) right

bytes_piece : (v : ReadyVerb) (address : ℕ) (thread name : List ℕ) → is_ready v address thread name ≡ true → IsPiece 280 (ready_bytes v address thread name)
bytes_piece v address thread name right =
    let parts = ready_parts v address thread name right in
    pieces 136 144 (thread ++ 32 ∷ verb_text v) (operands_text v address name)
    (pieces 128 8 thread (32 ∷ verb_text v) (name_piece thread parts.0) (verb_piece v)) (operands_piece v address name parts.1)

-- its text is its bytes and an LF
pub text_is : (v : ReadyVerb) (address : ℕ) (thread name : List ℕ) → ready_text v address thread name ≡ ready_bytes v address thread name ++ 10 ∷ []
unfolding ready_text
text_is v address thread name = refl

text_size : (v : ReadyVerb) (address : ℕ) (thread name : List ℕ) → length (ready_text v address thread name) ≡ length (ready_bytes v address thread name) + 1
text_size v address thread name = ap length (text_is v address thread name) ∙ length-append (ready_bytes v address thread name) (10 ∷ [])

pub text_short : (v : ReadyVerb) (address : ℕ) (thread name : List ℕ) → is_ready v address thread name ≡ true → length (ready_text v address thread name) ≤ 281
text_short v address thread name right = let is = bytes_piece v address thread name right in omega (arith, is.few, text_size v address thread name)

-- how many bytes stand around the names
abbrev pub fixed_width : ReadyVerb → ℕ
fixed_width does.Read = 21
fixed_width does.Write = 22
fixed_width does.Lock = 6
fixed_width does.Unlock = 8
fixed_width does.ReadLock = 7
fixed_width does.ReadUnlock = 9

abbrev pub named_width : List ℕ → ℕ
named_width [] = 0
named_width (b ∷ bs) = length bs + 2

pub named_none : (name : List ℕ) → length name ≡ 0 → 0 ≡ named_width name
named_none [] none = refl
named_none (b ∷ bs) none = absurd (omega (arith, none))

pub named_some : (name : List ℕ) → nat_eq (length name) 0 ≡ false → length name + 1 ≡ named_width name
named_some [] some = absurd (cc)
named_some (b ∷ bs) some = omega arith

word_size : (name : List ℕ) → length (name_word name) ≡ named_width name
word_size [] = refl
word_size (b ∷ bs) = omega arith

lock_size : (name : List ℕ) → is_lock_name name ≡ true → length (32 ∷ name) ≡ named_width name
lock_size [] e = absurd (cc)
lock_size (b ∷ bs) e = omega arith

access_size : (address : ℕ) (site : List ℕ) → IsReadyAccess address site → length ((codes " 0x" ++ hex_digits 12 address) ++ name_word site) ≡ 15 + named_width site
access_size address site is =
    let hex = access_hex address is.small in
    omega (arith, length-append (codes " 0x" ++ hex_digits 12 address) (name_word site), hex.size, word_size site)

does_size : (v : ReadyVerb) (address : ℕ) (name : List ℕ) → are_operands v address name ≡ true
    → length (32 ∷ verb_text v) + length (operands_text v address name) + 1 ≡ fixed_width v + named_width name
does_size does.Read address name right = omega (arith, access_size address name (access_parts address name right))
does_size does.Write address name right = omega (arith, access_size address name (access_parts address name right))
does_size does.Lock address name right = omega (arith, lock_size name right)
does_size does.Unlock address name right = omega (arith, lock_size name right)
does_size does.ReadLock address name right = omega (arith, lock_size name right)
does_size does.ReadUnlock address name right = omega (arith, lock_size name right)

pub ready_size : (v : ReadyVerb) (address : ℕ) (thread name : List ℕ) → is_ready v address thread name ≡ true
    → length (ready_text v address thread name) ≡ length thread + fixed_width v + named_width name
ready_size v address thread name right =
    let parts = ready_parts v address thread name right in
    omega (arith, text_size v address thread name, length-append (thread ++ 32 ∷ verb_text v) (operands_text v address name), length-append thread (32 ∷ verb_text v), does_size v address name parts.1)

-- bytes without an LF, and an LF
shown_inside : (b : ℕ) → is_shown b ≡ true → is_end b ≡ false
shown_inside b e = grind (arith, nat_tests, e)

line_first : (bytes rest : List ℕ) → list_all is_shown bytes ≡ true → lines_of (bytes ++ 10 ∷ rest) ≡ record { bytes = bytes; ended = true } ∷ lines_of rest
line_first [] rest all = refl
line_first (x ∷ xs) rest all =
    let parts = and_parts (is_shown x) (list_all is_shown xs) all in
    let inside : is_end x ≡ false = shown_inside x parts.0 in
    rw inside (ap (onto_line x) (line_first xs rest parts.1))

-- a line that was taken was the next one
ready_first : (at : Place) (old known : Option (List ℕ)) (v : ReadyVerb) (address : ℕ) (thread name : List ℕ) → at.ahead ≡ [] → is_ready v address thread name ≡ true
    → Consumes old known (ready_text v address thread name)
    → LineThen (lines_left at old) (ready_placed at v address thread name) (lines_left (past_unread at (length (ready_text v address thread name))) known)
ready_first at None known v address thread name empty right takes = tt
ready_first at (Some text) None v address thread name empty right takes = takes
ready_first at (Some text) (Some rest) v address thread name empty right takes =
    let bytes = ready_bytes v address thread name in
    let line : Line = record { bytes = bytes; ended = true } in
    let size : width line ≡ length (ready_text v address thread name) = sym (text_size v address thread name) in
    let split : text ≡ bytes ++ 10 ∷ rest = takes ∙ ap (λ (t : List ℕ). t ++ rest) (text_is v address thread name) ∙ append_assoc bytes (10 ∷ []) rest in
    let first = line_first bytes rest (bytes_piece v address thread name right).shown in
    let left : lines_of (at.ahead ++ text) ≡ line ∷ lines_of rest = ap (λ (a : List ℕ). lines_of (a ++ text)) empty ∙ ap lines_of split ∙ first in
    let behind : lines_of rest ≡ lines_of (at.ahead ++ rest) = ap (λ (a : List ℕ). lines_of (a ++ rest)) (sym empty) in
    ap (placed_from at.number at.start) left
    ∙ ap (λ (k : ℕ). record { number = at.number; start = at.start; line = line } ∷ placed_from (at.number + 1) (at.start + k) (lines_of rest)) size
    ∙ ap (λ (ls : List Line). record { number = at.number; start = at.start; line = line } ∷ placed_from (at.number + 1) (at.start + length (ready_text v address thread name)) ls) behind

-- it has no fault of the limits where so many bytes are left
ready_within : (at : Place) (v : ReadyVerb) (address : ℕ) (thread name : List ℕ) → is_ready v address thread name ≡ true → at.start + 1025 ≤ at.limit
    → limit_fault at.limit (ready_placed at v address thread name) ≡ None
ready_within at v address thread name right room =
    let bytes = ready_bytes v address thread name in
    let few = (bytes_piece v address thread name right).few in
    let short : nat_lt 1024 (length bytes) ≡ false = grind (arith, nat_tests, few) in
    let fits : nat_lt at.limit (at.start + (length bytes + 1)) ≡ false = grind (arith, nat_tests, few, room) in
    rw (short, fits) refl

-- a line that was taken, by what is known of the place
pub line_taken : (at new : Place) (old known : Option (List ℕ)) (v : ReadyVerb) (address : ℕ) (thread name : List ℕ) (width : ℕ) → at.ahead ≡ [] → is_ready v address thread name ≡ true
    → Consumes old known (ready_text v address thread name) → at.start + 1025 ≤ at.limit → width ≡ length (ready_text v address thread name) → new ≡ past_unread at width
    → TakesLine at new old known v address thread name
line_taken at new old known v address thread name width empty right takes room size is =
    let past : new ≡ past_unread at (length (ready_text v address thread name)) = is ∙ ap (past_unread at) size in
    record {
      right = right;
      first = subst (λ (p : Place). LineThen (lines_left at old) (ready_placed at v address thread name) (lines_left p known)) (sym past) (ready_first at old known v address thread name empty right takes);
      fits = ready_within at v address thread name right room;
      some = omega (arith, ap (λ (p : Place). p.start) past, text_size v address thread name);
      past = past;
    }

-- what stands behind the front of what is left
abbrev behind_front : Option (List ℕ) → Option (List ℕ) → List ℕ → Option (List ℕ)
behind_front None known more = None
behind_front (Some text) None more = None
behind_front (Some text) (Some rest) more = Some (more ++ rest)

front_consumed : (old known : Option (List ℕ)) (front more : List ℕ) → Consumes old known (front ++ more)
    → Consumes old (behind_front old known more) front × Consumes (behind_front old known more) known more
front_consumed None known front more takes = (tt, tt)
front_consumed (Some text) None front more takes = absurd takes
front_consumed (Some text) (Some rest) front more takes = (takes ∙ append_assoc front more rest, refl)

keeps_by : (old known : Option (List ℕ)) → Consumes old known [] → Keeps old known
keeps_by None known takes = tt
keeps_by (Some text) None takes = takes
keeps_by (Some text) (Some rest) takes = sym takes

-- the first of so many words is right, and so are those behind it
abbrev AreForms : ReadyVerb → ℕ → List ℕ → List ℕ → ℕ → Type 0
AreForms v address thread name n = (i : ℕ) → i < n → is_ready v (address + 4 * i) thread name ≡ true

form_first : (v : ReadyVerb) (address : ℕ) (thread name : List ℕ) (n : ℕ) → AreForms v address thread name (suc n) → is_ready v address thread name ≡ true
form_first v address thread name n forms =
    let here : address + 4 * 0 ≡ address = omega arith in
    ap (λ (a : ℕ). is_ready v a thread name) (sym here) ∙ forms 0 (omega arith)

forms_behind : (v : ReadyVerb) (address : ℕ) (thread name : List ℕ) (n : ℕ) → AreForms v address thread name (suc n) → AreForms v (address + 4) thread name n
forms_behind v address thread name n forms = λ i less.
    let here : address + 4 + 4 * i ≡ address + 4 * (i + 1) = omega arith in
    ap (λ (a : ℕ). is_ready v a thread name) here ∙ forms (i + 1) (omega (arith, less))

-- the lines of so many words were taken, one after another
pub words_taken : (n : ℕ) (at new : Place) (old known : Option (List ℕ)) (v : ReadyVerb) (address : ℕ) (thread name : List ℕ) (width : ℕ) → at.ahead ≡ [] → AreForms v address thread name n
    → Consumes old known (words_text v address thread name n) → at.start + n * 281 + 1025 ≤ at.limit → width ≡ length thread + fixed_width v + named_width name
    → new ≡ record at { number = at.number + n; start = at.start + n * width } → TakesLines at new old known v address thread name n
unfolding words_text
words_taken zero at new old known v address thread name width empty forms takes room size is =
    let number : at.number + 0 ≡ at.number = omega arith in
    let start : at.start + 0 * width ≡ at.start = omega arith in
    (is ∙ ap (λ (k : ℕ). record at { number = k; start = at.start + 0 * width }) number ∙ ap (λ (k : ℕ). record at { start = k }) start, keeps_by old known takes)
words_taken (suc n) at new old known v address thread name width empty forms takes room size is =
    let right = form_first v address thread name n forms in
    let mid : Place = past_unread at width in
    let parts = front_consumed old known (ready_text v address thread name) (words_text v (address + 4) thread name n) takes in
    let between = behind_front old known (words_text v (address + 4) thread name n) in
    let one : width ≡ length (ready_text v address thread name) = size ∙ sym (ready_size v address thread name right) in
    let short = text_short v address thread name right in
    let number : at.number + suc n ≡ at.number + 1 + n = omega arith in
    let start : at.start + suc n * width ≡ at.start + width + n * width = omega arith in (
      mid,
      between,
      line_taken at mid old between v address thread name width empty right parts.0 (omega (arith, room)) one refl,
      words_taken n mid new between known v (address + 4) thread name width empty (forms_behind v address thread name n forms) parts.1 (omega (arith, room, one, short)) size
          (is ∙ ap (λ (k : ℕ). record at { number = k; start = at.start + suc n * width }) number ∙ ap (λ (k : ℕ). record at { number = at.number + 1 + n; start = k }) start),
    )

-- a right line's first form, and the widths of its lines
pub right_form : (names : NameKind → ℕ → List ℕ) (line : ReadyLine) → IsRight names line → is_ready line.verb line.address (thread_name names line) (operand_name names line) ≡ true
right_form names line right =
    let here : line.address + 4 * 0 ≡ line.address = omega arith in
    ap (λ (a : ℕ). is_ready line.verb a (thread_name names line) (operand_name names line)) (sym here) ∙ right.form 0 (omega (arith, right.some))

pub right_width : (names : NameKind → ℕ → List ℕ) (line : ReadyLine) → IsRight names line → line.width ≡ length (thread_name names line) + fixed_width line.verb + named_width (operand_name names line)
right_width names line right = right.width ∙ ready_size line.verb line.address (thread_name names line) (operand_name names line) (right_form names line right)

-- the width of a right line, and of all of them
pub width_bounds : (names : NameKind → ℕ → List ℕ) (line : ReadyLine) → IsRight names line → (1 ≤ line.width) × (line.width ≤ 281)
width_bounds names line right =
    let thread = thread_name names line in
    let name = operand_name names line in
    (omega (arith, right.width, text_size line.verb line.address thread name), omega (arith, right.width, text_short line.verb line.address thread name (right_form names line right)))

times_bounds : (n width : ℕ) → 1 ≤ width → width ≤ 281 → (n ≤ n * width) × (n * width ≤ n * 281)
times_bounds zero width some few = (omega arith, omega arith)
times_bounds (suc n) width some few = let less = times_bounds n width some few in (omega (arith, some, less.0), omega (arith, few, less.1))

pub lines_bounds : (names : NameKind → ℕ → List ℕ) (line : ReadyLine) → IsRight names line → (line.count ≤ line.count * line.width) × (line.count * line.width ≤ 1405)
lines_bounds names line right =
    let width = width_bounds names line right in
    let all = times_bounds line.count line.width width.0 width.1 in
    (all.0, omega (arith, all.1, right.few))

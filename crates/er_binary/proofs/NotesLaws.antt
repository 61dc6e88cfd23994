-- What accesses touch, as a decoder notes it.
use Rattle.std.proofs.Common.{◌≡◌, ◌==◌, ℕ, zero, suc, ◌+◌, ◌*◌, ◌%◌, ◌<◌, ◌≤◌, ◌^◌, Bool, true, false, cond, List, [], ◌∷◌, ◌++◌, length, take, drop, vec_items, vec_len, Option, Some, None, IfSome, option_map, if◌then◌else◌, refl, sym, ap, add-one, ◌∙◌, arith, append_assoc, append-nil, rules}
use Rattle.std.specs.Option.{option_and_then}
use Rattle.std.proofs.lemmas.List.{drop_all}
use Rattle.std.specs.Io.KnownBytes.{Keeps, prepend_known}
use Rattle.er_binary.specs.Inner.Decoders.{NotesOn, all_blocks, all_content, all_records, to_note, undecoded}
use Rattle.er_binary.specs.Meaning.{Making, Taken, as_touches, past, take_record, take_said}
use Rattle.er_binary.specs.Numbers.{plus}
use Rattle.er_binary.specs.Records.{record_at}
use Rattle.er_binary.specs.States.{at_block}
use Rattle.er_binary.specs.Touches.{is_whole, lines_alone, passed_by, said_by, touch_at, touches_below, touches_said}
use Rattle.er_binary.specs.declared.decoder.Decoder.{Decoder}
use Rattle.er_binary.specs.declared.decoder.Phase.{Phase}
use Rattle.er_binary.specs.declared.decoder.Phase.TheVariants as phase
use Rattle.er_binary.specs.declared.records.Head.{Head}
use Rattle.er_binary.specs.declared.records.Record.{Record}
use Rattle.er_binary.specs.declared.records.Record.TheVariants as said
use Rattle.er_binary.specs.declared.state.State.{State}
use Rattle.er_binary.specs.declared.touches.Said.{Said}
use Rattle.er_lines.specs.Touches.{StaysKnown}
use Rattle.er_lines.specs.declared.ready.Touch.{Touch}
use Rattle.er_binary.proofs.MeaningLaws.{record_end, record_none, record_some}

-- what a record says of its lines, by the head that was read
taken_of : (b : Bool) (x t : Taken) → (if b then Some x else None) ≡ Some t → t ≡ x
taken_of true x t is = cc
taken_of false x t is = absurd (cc is)

taken_unless : (b : Bool) (x t : Taken) → (if b then None else Some x) ≡ Some t → t ≡ x
taken_unless true x t is = absurd (cc is)
taken_unless false x t is = cc

pub says_said : (s : State) (len : ℕ) (rest : List ℕ) (r : Record) (t : Taken) → take_said s len rest r ≡ Some t → t.says ≡ said_by s r
says_said s len rest (said.Access a) t is = ap (λ (u : Taken). u.says) (taken_of _ _ t is)
says_said s len rest (said.Other k n) t is = ap (λ (u : Taken). u.says) (taken_unless _ _ t is)

says_by : (s : State) (bytes : List ℕ) (o : Option Head) (t : Taken) (lines : Said) → option_and_then (λ head. take_said s head.len (drop head.len bytes) head.says) o ≡ Some t
    → IfSome o (λ head. lines ≡ said_by s head.says) → t.says ≡ lines
says_by s bytes None t lines is h = absurd (cc is)
says_by s bytes (Some head) t lines is h = says_said s head.len (drop head.len bytes) head.says t is ∙ sym h

pub says_is : (s : State) (bytes : List ℕ) (t : Taken) (lines : Said) → take_record s bytes ≡ Some t → IfSome (record_at bytes) (λ head. lines ≡ said_by s head.says) → t.says ≡ lines
unfolding take_record
says_is s bytes t lines is h = says_by s bytes (record_at bytes) t lines is h

-- notes go on, step by step
pub notes_trans : (a b c : Decoder) → NotesOn a b → NotesOn b c → NotesOn a c
notes_trans a b c one two = record { on = two.on ∙ one.on; same = λ is rest. one.same is rest ∙ two.same (one.on ∙ is) rest }

-- where nothing changed that they go by
pub unnoted : (d e : Decoder) → e.notes.is_on ≡ d.notes.is_on → vec_items e.notes.touches ≡ vec_items d.notes.touches → e.notes.line ≡ d.notes.line
    → e.phase ≡ d.phase → e.state ≡ d.state → e.spot ≡ d.spot → e.header_held ≡ d.header_held → e.header ≡ d.header → e.bytes ≡ d.bytes → e.held ≡ d.held → e.next ≡ d.next → NotesOn d e
unfolding to_note
unnoted d e on touches line phase state spot header_held header bytes held next =
    record { on = on; same = λ is rest. sym (rw (touches, line, phase, state, spot, header_held, header, bytes, held, next) refl) }

-- what is noted and to be noted, by what is made of what is undecoded
pub noted_as : (d : Decoder) (rest : List ℕ) (f : ℕ → List Touch) → undecoded as_touches d.phase d rest ≡ f → to_note d rest ≡ vec_items d.notes.touches ++ f d.notes.line
unfolding to_note
noted_as d rest f is = ap (λ (g : ℕ → List Touch). vec_items d.notes.touches ++ g d.notes.line) is

-- what is undecoded in each phase
pub at_header : {M : Type 0} (made : Making M) (d : Decoder) (rest : List ℕ) → d.phase ≡ phase.Header
    → undecoded made d.phase d rest ≡ all_blocks made d.spot.block d.spot.start d.state (take d.header_held d.header ++ rest)
at_header made d rest at = ap (λ (p : Phase). undecoded made p d rest) at

pub at_content : {M : Type 0} (made : Making M) (d : Decoder) (rest : List ℕ) → d.phase ≡ phase.Content
    → undecoded made d.phase d rest ≡ all_content made d.spot (vec_len d.bytes) d.state (take d.held (vec_items d.bytes) ++ rest)
at_content made d rest at = ap (λ (p : Phase). undecoded made p d rest) at

pub at_record : {M : Type 0} (made : Making M) (d : Decoder) (rest : List ℕ) → d.phase ≡ phase.Record
    → undecoded made d.phase d rest ≡ all_records made (plus d.spot.start (16 + vec_len d.bytes)) d.spot d.state (drop d.next (vec_items d.bytes)) rest
at_record made d rest at = ap (λ (p : Phase). undecoded made p d rest) at

pub noted_blocks : (d : Decoder) (rest : List ℕ) → d.phase ≡ phase.Header
    → to_note d rest ≡ vec_items d.notes.touches ++ all_blocks as_touches d.spot.block d.spot.start d.state (take d.header_held d.header ++ rest) d.notes.line
noted_blocks d rest at = noted_as d rest _ (at_header as_touches d rest at)

pub noted_inside : (d : Decoder) (rest : List ℕ) → d.phase ≡ phase.Content
    → to_note d rest ≡ vec_items d.notes.touches ++ all_content as_touches d.spot (vec_len d.bytes) d.state (take d.held (vec_items d.bytes) ++ rest) d.notes.line
noted_inside d rest at = noted_as d rest _ (at_content as_touches d rest at)

-- behind the last record of a block
pub noted_end : (d : Decoder) (rest : List ℕ) → d.phase ≡ phase.Record → d.next ≡ vec_len d.bytes
    → to_note d rest ≡ vec_items d.notes.touches ++ (if d.spot.found == d.spot.count then all_blocks as_touches (plus d.spot.block 1) (plus d.spot.start (16 + vec_len d.bytes)) d.state rest else as_touches.of_damage d.spot.start) d.notes.line
noted_end d rest at whole =
    let all : length (vec_items d.bytes) ≤ d.next = search rules in
    noted_as d rest _ (at_record as_touches d rest at ∙ record_end as_touches (plus d.spot.start (16 + vec_len d.bytes)) d.spot d.state (drop d.next (vec_items d.bytes)) rest (ap length (drop_all d.next (vec_items d.bytes) all)))

-- a decoder that took one record and followed its lines
pub noted_record : (d e : Decoder) (t : Taken) → d.phase ≡ phase.Record → d.next < length (vec_items d.bytes) → take_record d.state (drop d.next (vec_items d.bytes)) ≡ Some t → 1 ≤ t.len
    → e.phase ≡ phase.Record → e.state ≡ t.state → e.spot ≡ past d.spot t.len → e.bytes ≡ d.bytes → e.next ≡ d.next + t.len → e.notes.is_on ≡ d.notes.is_on
    → (d.notes.is_on ≡ true → vec_items e.notes.touches ≡ vec_items d.notes.touches ++ touches_said d.notes.line t.says) → (d.notes.is_on ≡ true → e.notes.line ≡ passed_by d.notes.line t.says.lines) → NotesOn d e
noted_record d e t at less some len phase state spot bytes next on touches line = record {
  on = on;
  same = λ is rest.
      let more : ℕ → List Touch = all_records as_touches (plus d.spot.start (16 + vec_len d.bytes)) (past d.spot t.len) t.state (drop (d.next + t.len) (vec_items d.bytes)) rest in
      let after : undecoded as_touches e.phase e rest ≡ more = at_record as_touches e rest phase ∙ rw (state, spot, bytes, next) refl in
      let moved : vec_items e.notes.touches ++ more e.notes.line ≡ (vec_items d.notes.touches ++ touches_said d.notes.line t.says) ++ more (passed_by d.notes.line t.says.lines) =
      ap (λ (xs : List Touch). xs ++ more e.notes.line) (touches is) ∙ ap (λ (n : ℕ). (vec_items d.notes.touches ++ touches_said d.notes.line t.says) ++ more n) (line is) in
      noted_as d rest _ (at_record as_touches d rest at ∙ record_some as_touches (plus d.spot.start (16 + vec_len d.bytes)) d.spot d.state (vec_items d.bytes) rest d.next t less some len)
      ∙ sym (append_assoc (vec_items d.notes.touches) (touches_said d.notes.line t.says) (more (passed_by d.notes.line t.says.lines)))
      ∙ sym (noted_as e rest more after ∙ moved);
}

-- or met one that may not come
pub noted_none : (d : Decoder) (rest : List ℕ) → d.phase ≡ phase.Record → d.next < length (vec_items d.bytes) → take_record d.state (drop d.next (vec_items d.bytes)) ≡ None
    → to_note d rest ≡ vec_items d.notes.touches
noted_none d rest at less none =
    noted_as d rest _ (at_record as_touches d rest at ∙ record_none as_touches (plus d.spot.start (16 + vec_len d.bytes)) d.spot d.state (vec_items d.bytes) rest d.next less none) ∙ append-nil _

-- the touches of one word more
pub one_more : (line k : ℕ) (s : Said) (before now after : List Touch) → now ≡ before ++ touches_below line s k
    → after ≡ now ++ cond (is_whole (touch_at (passed_by line k) s k)) [] (touch_at (passed_by line k) s k ∷ []) → after ≡ before ++ touches_below line s (k + 1)
one_more line k s before now after noted grown =
    let t = touch_at (passed_by line k) s k in
    let more : List Touch = cond (is_whole t) [] (t ∷ []) in
    grown ∙ ap (λ (xs : List Touch). xs ++ more) noted ∙ append_assoc before (touches_below line s k) more ∙ ap (λ (n : ℕ). before ++ touches_below line s n) (sym (add-one k))

-- a word that is touched whole is not noted, and another is
pub word_whole : (old : List Touch) (t u : Touch) → t ≡ u → is_whole t ≡ true → old ≡ old ++ cond (is_whole u) [] (u ∷ [])
word_whole old t u is whole =
    sym (ap (λ (v : Touch). old ++ cond (is_whole v) [] (v ∷ [])) (sym is) ∙ ap (λ (b : Bool). old ++ cond b [] (t ∷ [])) whole ∙ append-nil old)

pub word_part : (old new : List Touch) (t u : Touch) → t ≡ u → is_whole t ≡ false → new ≡ old ++ t ∷ [] → new ≡ old ++ cond (is_whole u) [] (u ∷ [])
word_part old new t u is part grown =
    grown ∙ sym (ap (λ (v : Touch). old ++ cond (is_whole v) [] (v ∷ [])) (sym is) ∙ ap (λ (b : Bool). old ++ cond b [] (t ∷ [])) part)

-- notes by what was known before a call that made room
pub followed : (before room after : List Touch) (line now : ℕ) (s t : Said) → room ≡ before → now ≡ line → t ≡ s → after ≡ room ++ touches_said now s → after ≡ before ++ touches_said line t
followed before room after line now s t one two same is = cc

pub gone_on : (after line now : ℕ) (s t : Said) → now ≡ line → t ≡ s → after ≡ passed_by now s.lines → after ≡ passed_by line t.lines
gone_on after line now s t two same is = cc

-- lines of no access
pub touches_none : (line lines : ℕ) → touches_said line (lines_alone lines) ≡ []
unfolding touches_said
touches_none line lines = refl

pub passed_none : (line : ℕ) → line < 2 ^ 64 → passed_by line 0 ≡ line
passed_none line less = omega arith

-- a list that stays known
pub stays_by : (f g : List ℕ → List Touch) (a b : List ℕ) (old new : Option (List ℕ)) → Keeps (prepend_known a old) (prepend_known b new)
    → ((before after : List ℕ) → new ≡ Some after → b ++ after ≡ a ++ before → g after ≡ f before) → StaysKnown (option_map f old) (option_map g new)
stays_by f g a b None new same means = λ xs is. cc
stays_by f g a b (Some before) None same means = absurd same
stays_by f g a b (Some before) (Some after) same means = λ xs is. ap Some (means before after refl same) ∙ is

pub stays_trans : (a b c : Option (List Touch)) → StaysKnown a b → StaysKnown b c → StaysKnown a c
stays_trans a b c one two = λ xs is. two xs (one xs is)

pub stays_same : (f g : List ℕ → List Touch) (known : Option (List ℕ)) → ((rest : List ℕ) → f rest ≡ g rest) → StaysKnown (option_map f known) (option_map g known)
stays_same f g None same = λ xs is. is
stays_same f g (Some rest) same = λ xs is. ap Some (sym (same rest)) ∙ is

-- what is to be noted of the blocks that are left, by the bytes that were read since
pub noted_header : (d : Decoder) (before bytes : List ℕ) (f : ℕ → List Touch) → d.phase ≡ phase.Header → bytes ≡ take d.header_held d.header ++ before
    → all_blocks as_touches d.spot.block d.spot.start d.state bytes ≡ f → to_note d before ≡ vec_items d.notes.touches ++ f d.notes.line
noted_header d before bytes f at same is =
    noted_as d before f (at_header as_touches d before at ∙ ap (λ (t : List ℕ). all_blocks as_touches d.spot.block d.spot.start d.state t) (sym same) ∙ is)

-- and of what is left of a block
pub noted_content : (d : Decoder) (before bytes : List ℕ) (f : ℕ → List Touch) → d.phase ≡ phase.Content → bytes ≡ take d.held (vec_items d.bytes) ++ before
    → all_content as_touches d.spot (vec_len d.bytes) d.state bytes ≡ f → to_note d before ≡ vec_items d.notes.touches ++ f d.notes.line
noted_content d before bytes f at same is =
    noted_as d before f (at_content as_touches d before at ∙ ap (λ (t : List ℕ). all_content as_touches d.spot (vec_len d.bytes) d.state t) (sym same) ∙ is)

-- a decoder that read on in a block, or began to take its records
pub noted_now : (d e : Decoder) (h rest : List ℕ) → e.phase ≡ phase.Content → e.spot ≡ d.spot → e.state ≡ d.state → vec_len e.bytes ≡ vec_len d.bytes → vec_items e.bytes ≡ h
    → vec_items e.notes.touches ≡ vec_items d.notes.touches → e.notes.line ≡ d.notes.line
    → to_note e rest ≡ vec_items d.notes.touches ++ all_content as_touches d.spot (vec_len d.bytes) d.state (take e.held h ++ rest) d.notes.line
noted_now d e h rest at spot state len items touches line =
    noted_as e rest _ (at_content as_touches e rest at
    ∙ ap (λ (k : ℕ). all_content as_touches e.spot k e.state (take e.held (vec_items e.bytes) ++ rest)) len
    ∙ ap (λ (xs : List ℕ). all_content as_touches e.spot (vec_len d.bytes) e.state (take e.held xs ++ rest)) items) ∙ rw (spot, state, touches, line) refl

pub noted_done : (d e : Decoder) (h rest : List ℕ) → e.phase ≡ phase.Record → e.spot ≡ d.spot → e.state ≡ at_block d.state → e.next ≡ 0 → vec_len e.bytes ≡ length h → vec_items e.bytes ≡ h
    → vec_items e.notes.touches ≡ vec_items d.notes.touches → e.notes.line ≡ d.notes.line
    → to_note e rest ≡ vec_items d.notes.touches ++ all_records as_touches (plus d.spot.start (16 + length h)) d.spot (at_block d.state) h rest d.notes.line
noted_done d e h rest at spot state next len items touches line =
    noted_as e rest _ (at_record as_touches e rest at
    ∙ ap (λ (k : ℕ). all_records as_touches (plus e.spot.start (16 + k)) e.spot e.state (drop e.next (vec_items e.bytes)) rest) len
    ∙ ap (λ (xs : List ℕ). all_records as_touches (plus e.spot.start (16 + length h)) e.spot e.state (drop e.next xs) rest) items) ∙ rw (spot, state, next, touches, line) refl

-- nothing is noted of an access that touches its words whole
whole_below : (line : ℕ) (s : Said) (n : ℕ) → s.address % 4 ≡ 0 → s.size ≡ 4 * s.words → n ≤ s.words → touches_below line s n ≡ []
whole_below line s zero even whole few = refl
whole_below line s (suc n) even whole few =
    let t = touch_at (passed_by line n) s n in
    let first : t.first ≡ 0 = omega (arith, even) in
    let last : t.last ≡ 3 = omega (arith, even, whole, few) in
    let is : is_whole t ≡ true = rw (first, last) refl in
    let less : n ≤ s.words = omega (arith, few) in
    rw (whole_below line s n even whole less, is) refl

pub whole_none : (s : Said) → s.address % 4 ≡ 0 → s.size ≡ 4 * s.words → (line : ℕ) → touches_said line s ≡ []
unfolding touches_said
whole_none s even whole line = whole_below line s s.words even whole (omega arith)

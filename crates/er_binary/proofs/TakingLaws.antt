-- A decoder that took a line, and one that made the text of its words.
use Rattle.std.proofs.Common.{◌≡◌, ℕ, ◌+◌, ◌<◌, ◌≤◌, true, List, ◌++◌, length, drop, vec_items, vec_len, Option, Some, None, IfSome, IfNone, refl, sym, ap, ◌∙◌, append-nil}
use Rattle.er_lines.specs.Ready.{line_text}
use Rattle.er_lines.specs.declared.ready.ReadyLine.{ReadyLine}
use Rattle.er_binary.specs.Inner.Decoders.{GoesOn, HasGiven, NotesOn, Takes, still}
use Rattle.er_binary.specs.Inner.Words.{passed, words_at, words_text}
use Rattle.er_binary.specs.Meaning.{as_text, Taken, past, take_record, take_said}
use Rattle.er_binary.specs.Numbers.{plus}
use Rattle.er_binary.specs.Records.{record_at}
use Rattle.er_binary.specs.States.{after_access, is_access, names_in}
use Rattle.er_binary.specs.Touches.{said_by, lines_alone, passed_by, touches_said}
use Rattle.er_binary.specs.Texts.{access_text}
use Rattle.er_binary.specs.declared.decoder.Decoder.{Decoder}
use Rattle.er_binary.specs.declared.decoder.Phase.TheVariants as phase
use Rattle.er_binary.specs.declared.records.Access.{Access}
use Rattle.er_binary.specs.declared.records.Head.{Head}
use Rattle.er_binary.specs.declared.records.Record.TheVariants as said
use Rattle.er_binary.specs.declared.state.State.{State}
use Rattle.er_binary.proofs.DecoderLaws.{given_is, record_is}
use Rattle.er_binary.proofs.MeaningLaws.{record_some, take_some}
use Rattle.er_binary.specs.declared.touches.Said.{Said}
use Rattle.er_lines.specs.declared.ready.Touch.{Touch}
use Rattle.er_binary.proofs.NotesLaws.{noted_record, notes_trans, touches_none}
use Rattle.er_binary.proofs.WordsLaws.{kept_on}

record_taken : (s : State) (bytes : List ℕ) (head : Head) (t : Taken) → record_at bytes ≡ Some head → take_said s head.len (drop head.len bytes) head.says ≡ Some t → take_record s bytes ≡ Some t
record_taken s bytes head t is said = take_some s bytes head is ∙ said

-- a decoder that took another record
pub other_taken : (d e : Decoder) (rest : List ℕ) (head : Head) (t : Taken) → HasGiven d → d.phase ≡ phase.Record → record_at (drop d.next (vec_items d.bytes)) ≡ Some head
    → take_said d.state head.len (drop head.len (drop d.next (vec_items d.bytes))) head.says ≡ Some t → d.next < length (vec_items d.bytes) → 1 ≤ t.len → HasGiven e → e.phase ≡ phase.Record
    → e.state ≡ t.state → e.spot ≡ past d.spot t.len → e.bytes ≡ d.bytes → e.next ≡ d.next + t.len → still d rest ≡ t.text ++ still e rest
other_taken d e rest head t given at is said less some done phase state spot bytes next =
    record_is d rest given at
    ∙ record_some as_text (plus d.spot.start (16 + vec_len d.bytes)) d.spot d.state (vec_items d.bytes) rest d.next t less (record_taken d.state _ head t is said) some
    ∙ ap (λ (text : List ℕ). t.text ++ text) (sym (given_is e rest done ∙ rw (phase, state, spot, bytes, next) refl))

-- a decoder that took an access, by the lines of its words
pub access_taken : (d e : Decoder) (rest : List ℕ) (head : Head) (a : Access) (line : ReadyLine) → HasGiven d → d.phase ≡ phase.Record → record_at (drop d.next (vec_items d.bytes)) ≡ Some head → head.says ≡ said.Access a
    → d.next < length (vec_items d.bytes) → 1 ≤ head.len → is_access d.state a ≡ true → HasGiven e → e.phase ≡ phase.Record → e.state ≡ passed d.state (words_at d.state a)
    → words_text d.state (words_at d.state a) ≡ line_text (names_in d.state) line → e.spot ≡ past d.spot head.len → e.bytes ≡ d.bytes → e.next ≡ d.next + head.len
    → still d rest ≡ line_text (names_in e.state) line ++ still e rest
access_taken d e rest head a line given at is says less some right done phase state text spot bytes next =
    let t : Taken = record { text = access_text d.state a; state = after_access d.state a; len = head.len; says = said_by d.state (said.Access a) } in
    let said : take_said d.state head.len (drop head.len (drop d.next (vec_items d.bytes))) head.says ≡ Some t = rw (says, right) refl in
    other_taken d e rest head t given at is said less some done phase state spot bytes next
    ∙ ap (λ (w : List ℕ). w ++ still e rest) (text ∙ ap (λ (s : State). line_text (names_in s) line) (sym state))

-- what is noted where an access was found
pub access_noted : (d e : Decoder) (head : Head) (a : Access) → d.phase ≡ phase.Record → record_at (drop d.next (vec_items d.bytes)) ≡ Some head → head.says ≡ said.Access a
    → d.next < length (vec_items d.bytes) → 1 ≤ head.len → is_access d.state a ≡ true → e.phase ≡ phase.Record → e.state ≡ passed d.state (words_at d.state a)
    → e.spot ≡ past d.spot head.len → e.bytes ≡ d.bytes → e.next ≡ d.next + head.len → e.notes.is_on ≡ d.notes.is_on
    → (d.notes.is_on ≡ true → vec_items e.notes.touches ≡ vec_items d.notes.touches ++ touches_said d.notes.line (said_by d.state head.says))
    → (d.notes.is_on ≡ true → e.notes.line ≡ passed_by d.notes.line (said_by d.state head.says).lines) → NotesOn d e
access_noted d e head a at is says less some right phase state spot bytes next on touches line =
    let t : Taken = record { text = access_text d.state a; state = after_access d.state a; len = head.len; says = said_by d.state (said.Access a) } in
    let said : take_said d.state head.len (drop head.len (drop d.next (vec_items d.bytes))) head.says ≡ Some t = rw (says, right) refl in
    let same : said_by d.state head.says ≡ t.says = rw says refl in
    noted_record d e t at less (record_taken d.state _ head t is said) some phase state spot bytes next on
    (λ is_on. touches is_on ∙ ap (λ (s : Said). vec_items d.notes.touches ++ touches_said d.notes.line s) same)
    (λ is_on. line is_on ∙ ap (λ (s : Said). passed_by d.notes.line s.lines) same)

-- or another record, whose lines are of no access
pub other_noted : (d e : Decoder) (head : Head) (t : Taken) (lines : ℕ) → d.phase ≡ phase.Record → record_at (drop d.next (vec_items d.bytes)) ≡ Some head
    → take_said d.state head.len (drop head.len (drop d.next (vec_items d.bytes))) head.says ≡ Some t → d.next < length (vec_items d.bytes) → 1 ≤ t.len → e.phase ≡ phase.Record
    → e.state ≡ t.state → e.spot ≡ past d.spot t.len → e.bytes ≡ d.bytes → e.next ≡ d.next + t.len → t.says ≡ lines_alone lines → e.notes.is_on ≡ d.notes.is_on
    → vec_items e.notes.touches ≡ vec_items d.notes.touches → (d.notes.is_on ≡ true → e.notes.line ≡ passed_by d.notes.line lines) → NotesOn d e
other_noted d e head t lines at is said less some phase state spot bytes next says on touches line =
    noted_record d e t at less (record_taken d.state _ head t is said) some phase state spot bytes next on
    (λ is_on. touches ∙ sym (ap (λ (s : Said). vec_items d.notes.touches ++ touches_said d.notes.line s) says
    ∙ ap (λ (more : List Touch). vec_items d.notes.touches ++ more) (touches_none d.notes.line lines) ∙ append-nil (vec_items d.notes.touches)))
    (λ is_on. line is_on ∙ sym (ap (λ (s : Said). passed_by d.notes.line s.lines) says))

-- one after another
pub goes_trans : (a b c : Decoder) → GoesOn a b → GoesOn b c → GoesOn a c
goes_trans a b c one two =
    record { same = λ rest. one.same rest ∙ two.same rest; kept = kept_on _ _ _ one.kept two.kept; noted = notes_trans a b c one.noted two.noted }

pub takes_behind : (a b c : Decoder) (line : ReadyLine) → GoesOn a b → Takes b c line → Takes a c line
takes_behind a b c line one two =
    record { some = λ rest. one.same rest ∙ two.some rest; right = two.right; kept = kept_on _ _ _ one.kept two.kept; noted = notes_trans a b c one.noted two.noted }

-- whether a line was taken or not
pub none_behind : (a b c : Decoder) (o : Option ReadyLine) → GoesOn a b → IfNone o (GoesOn b c) → IfNone o ((rest : List ℕ) → still a rest ≡ still c rest)
none_behind a b c None one two = (goes_trans a b c one two).same
none_behind a b c (Some line) one two = tt

pub some_behind : (a b c : Decoder) (o : Option ReadyLine) → GoesOn a b → IfSome o (Takes b c) → IfSome o (λ line. (rest : List ℕ) → still a rest ≡ line_text (names_in c.state) line ++ still c rest)
some_behind a b c None one two = tt
some_behind a b c (Some line) one two = (takes_behind a b c line one two).some

pub noted_behind : (a b c : Decoder) (o : Option ReadyLine) → GoesOn a b → IfNone o (GoesOn b c) → IfSome o (Takes b c) → NotesOn a c
noted_behind a b c None one two more = notes_trans a b c one.noted two.noted
noted_behind a b c (Some line) one two more = notes_trans a b c one.noted more.noted

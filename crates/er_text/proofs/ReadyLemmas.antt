-- A line that was never made as text says what the grammar says of its text.
use Rattle.std.proofs.Common.{◌≡◌, ℕ, ◌+◌, ◌/◌, ◌^◌, ◌<◌, Bool, true, false, cond, List, [], ◌∷◌, ◌++◌, length, take, codes, nat_le, ◌&&◌, Some, None, Ok, refl, ap, ◌∙◌, append_assoc, arith}
use Rattle.std.specs.List.{list_all}
use Rattle.std.specs.Char.{is_digit}
use Rattle.std.specs.Str.Parse.{digits_value}
use Rattle.std.proofs.lemmas.Bool.{and_parts}
use Rattle.std.proofs.lemmas.List.{drop_at, length-append, take_at}
use Rattle.er_event.specs.declared.steps.Kind.{Kind}
use Rattle.er_event.specs.declared.steps.Kind.TheVariants as kind
use Rattle.er_event.specs.declared.steps.Mode.TheVariants as mode
use Rattle.er_lines.specs.Lines.{has_bytes}
use Rattle.er_lines.specs.Naming.{is_lock_name, is_name, is_name_byte, is_site_byte, is_site_name}
use Rattle.er_lines.specs.Number.{hex_digits}
use Rattle.er_lines.specs.Ready.{are_operands, is_maybe_site, is_ready, name_word, operands_text, verb_text}
use Rattle.er_lines.specs.Places.{Place}
use Rattle.er_lines.specs.Taking.{ready_bytes, ready_placed}
use Rattle.er_lines.specs.declared.ready.ReadyVerb.{ReadyVerb}
use Rattle.er_lines.specs.declared.ready.ReadyVerb.TheVariants as does
use Rattle.er_lines.proofs.ReadyLaws.{IsReadyAccess, access_parts, access_hex, lock_is_name, ready_parts, site_right}
use Rattle.er_lines.proofs.ByteLemmas.{name_printed}
use Rattle.er_trace.specs.Trace.{Recording}
use Rattle.er_text.specs.declared.stages.Stage.{Stage}
use Rattle.er_text.specs.declared.stages.Stage.TheVariants.{Events}
use Rattle.er_text.specs.declared.verbs.Version.TheVariants.{Three}
use Rattle.er_text.specs.Places.{Tail}
use Rattle.er_text.specs.Events.{Accesses, with_line}
use Rattle.er_text.specs.Inner.Endings.{tail_past}
use Rattle.er_text.specs.Inner.Idle.{last_actor, without_idle}
use Rattle.er_text.specs.Inner.Traces.{at_line, plain_at}
use Rattle.er_text.specs.Inner.FastPath.{IsFastAccess, IsFastLine, IsFastOperation, IsLeadingAddress}
use Rattle.er_text.specs.Inner.Ready.{ready_event, ready_operation, site_if}
use Rattle.er_text.proofs.FastPathLaws.{access_alone, access_led, access_site, line_says, lock_event_led}
use Rattle.er_text.proofs.UsualLemmas.{usual_line_read}

-- the bytes of its names
name_bytes : (w : List ℕ) → is_name w ≡ true → list_all is_name_byte w ≡ true
name_bytes w name = (and_parts (has_bytes w && nat_le (length w) 128) (list_all is_name_byte w) name).1

site_bytes : (w : List ℕ) → is_site_name w ≡ true → list_all is_site_byte w ≡ true
site_bytes w name = (and_parts (has_bytes w && nat_le (length w) 128) (list_all is_site_byte w) name).1

access_printed : (site : List ℕ) → is_maybe_site site ≡ true → list_all is_site_byte site ≡ true
access_printed [] right = refl
access_printed (b ∷ bs) right = site_bytes (b ∷ bs) (site_right (b ∷ bs) refl right).0

lock_printed : (name : List ℕ) → is_lock_name name ≡ true → list_all is_site_byte name ≡ true
lock_printed name right = name_printed name (name_bytes name (lock_is_name name right))

operands_printed : (v : ReadyVerb) (address : ℕ) (name : List ℕ) → are_operands v address name ≡ true → list_all is_site_byte name ≡ true
operands_printed does.Read address name right = access_printed name (access_parts address name right).site_is
operands_printed does.Write address name right = access_printed name (access_parts address name right).site_is
operands_printed does.Lock address name right = lock_printed name right
operands_printed does.Unlock address name right = lock_printed name right
operands_printed does.ReadLock address name right = lock_printed name right
operands_printed does.ReadUnlock address name right = lock_printed name right

pub thread_bytes : (v : ReadyVerb) (address : ℕ) (thread name : List ℕ) → is_ready v address thread name ≡ true → list_all is_name_byte thread ≡ true
thread_bytes v address thread name right = name_bytes thread (ready_parts v address thread name right).0

pub ready_printed : (v : ReadyVerb) (address : ℕ) (thread name : List ℕ) → is_ready v address thread name ≡ true → list_all is_site_byte name ≡ true
ready_printed v address thread name right = operands_printed v address name (ready_parts v address thread name right).1

pub read_small : (v : ReadyVerb) (address : ℕ) (thread name : List ℕ) → v ≡ does.Read → is_ready v address thread name ≡ true → address < 2 ^ 48
read_small v address thread name is right = (access_parts address name (rw is at (ready_parts v address thread name right).1)).small

pub write_small : (v : ReadyVerb) (address : ℕ) (thread name : List ℕ) → v ≡ does.Write → is_ready v address thread name ≡ true → address < 2 ^ 48
write_small v address thread name is right = (access_parts address name (rw is at (ready_parts v address thread name right).1)).small

-- twelve digits and what follows them
word_led : (address : ℕ) (tail : List ℕ) → address < 2 ^ 48 → IsLeadingAddress (codes "0x" ++ (hex_digits 12 address ++ tail)) address tail
word_led address tail small =
    let hex = access_hex address small in
    let digits = hex_digits 12 address in
    let front : take 12 (digits ++ tail) ≡ digits = take_at digits tail 12 hex.size in
    record {
      digits = digits ++ tail;
      len = 12;
      is = refl;
      front = record {
        most = omega arith;
        within = omega (arith, length-append digits tail, hex.size);
        digits = ap (list_all (λ d. is_digit d 16)) front ∙ hex.digits;
        value_is = ap (digits_value 16) front ∙ hex.value;
        small = small;
      };
      some = λ none. absurd (omega arith);
      behind = drop_at digits tail 12 hex.size;
    }

access_fast : (k : Kind) (address : ℕ) (site : List ℕ) (b : Bool) → has_bytes site ≡ b → IsReadyAccess address site
    → IsFastAccess Three k (codes "0x" ++ (hex_digits 12 address ++ cond b (32 ∷ site) [])) (Accesses k (address / 4) (cond b (Some site) None))
access_fast k address site true some is =
    let right = site_right site some is.site_is in
    access_site Three k (codes "0x" ++ (hex_digits 12 address ++ 32 ∷ site)) address (32 ∷ site) site (Some site) (Accesses k (address / 4) (Some site))
    (word_led address (32 ∷ site) is.small) refl (right.0, rw right.1 refl) refl
access_fast k address site false none is =
    access_alone Three k (codes "0x" ++ (hex_digits 12 address ++ [])) address [] (Accesses k (address / 4) None) (word_led address [] is.small) refl refl

access_is : (k : Kind) (address : ℕ) (site : List ℕ) → IsReadyAccess address site → IsFastAccess Three k (codes "0x" ++ (hex_digits 12 address ++ name_word site)) (Accesses k (address / 4) (site_if site))
access_is k address site is = access_fast k address site (has_bytes site) refl is

operation_fast : (v : ReadyVerb) (address : ℕ) (name : List ℕ) → are_operands v address name ≡ true → IsFastOperation Three (verb_text v ++ operands_text v address name) (ready_operation v address name)
operation_fast does.Read address name right = access_led Three kind.Read _ (codes "0x" ++ (hex_digits 12 address ++ name_word name)) _ refl (access_is kind.Read address name (access_parts address name right))
operation_fast does.Write address name right = access_led Three kind.Write _ (codes "0x" ++ (hex_digits 12 address ++ name_word name)) _ refl (access_is kind.Write address name (access_parts address name right))
operation_fast does.Lock address name right = lock_event_led Three true mode.Write _ name _ refl (right, refl)
operation_fast does.Unlock address name right = lock_event_led Three false mode.Write _ name _ refl (right, refl)
operation_fast does.ReadLock address name right = lock_event_led Three true mode.Read _ name _ refl (right, refl)
operation_fast does.ReadUnlock address name right = lock_event_led Three false mode.Read _ name _ refl (right, refl)

-- a whole line
pub ready_says : (v : ReadyVerb) (address : ℕ) (thread name : List ℕ) → is_ready v address thread name ≡ true → IsFastLine Three (ready_bytes v address thread name) (ready_event v address thread name)
ready_says v address thread name right =
    let parts = ready_parts v address thread name right in
    let rest = verb_text v ++ operands_text v address name in
    line_says Three (ready_bytes v address thread name) thread rest (ready_operation v address name)
    (append_assoc thread (32 ∷ verb_text v) (operands_text v address name), parts.0) (operation_fast v address name parts.1)

-- the line is read as the step that was added, behind the header of the last version
pub ready_read : (line number : ℕ) (stage : Stage) (v : ReadyVerb) (address : ℕ) (thread name thread_of name_of : List ℕ) (idle after : List Bool) (old new : Recording) → line ≡ number → thread ≡ thread_of → name ≡ name_of → stage ≡ Events Three
    → is_ready v address thread_of name_of ≡ true → new ≡ with_line line (ready_event v address thread name) old → ((who : ℕ) → last_actor new.steps ≡ Some who → after ≡ without_idle idle who)
    → plain_at (at_line number stage idle old) number (ready_bytes v address thread_of name_of) ≡ Ok (at_line (number + 1) stage after new)
ready_read line number stage v address thread name thread_of name_of idle after old new here of is_of is right adds acts =
    let told : new ≡ with_line number (ready_event v address thread_of name_of) old =
    adds ∙ ap (λ (n : ℕ). with_line n (ready_event v address thread name) old) here ∙ ap (λ (t : List ℕ). with_line number (ready_event v address t name) old) of
    ∙ ap (λ (n : List ℕ). with_line number (ready_event v address thread_of n) old) is_of in
    usual_line_read number stage Three (ready_bytes v address thread_of name_of) idle after old new is (ready_event v address thread_of name_of, ready_says v address thread_of name_of right, told) acts

-- it is no comment
pub ready_tail : (at : Place) (before : Tail) (v : ReadyVerb) (address : ℕ) (thread name : List ℕ) → is_ready v address thread name ≡ true
    → record { cut = false; comment = before.comment } ≡ tail_past before (ready_placed at v address thread name)
ready_tail at before v address thread name right = rw (ready_says v address thread name right).no_comment refl

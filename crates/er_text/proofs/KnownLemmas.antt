-- Numbers of names keep being right while names are added, and lines add what their numbers say.
use Rattle.std.proofs.Common.{◌≡◌, ℕ, suc, ◌+◌, ◌-◌, ◌*◌, ◌/◌, ◌<◌, ◌≤◌, ◌^◌, Bool, true, false, not, cond, ◌||◌, List, [], ◌∷◌, length, Option, Some, None, IfSome, unwrap_or, if◌then◌else◌, slice_set, refl, sym, ap, ◌∙◌, arith}
use Rattle.std.specs.List.{All, list_all}
use Rattle.std.specs.Str.{bytes_eq}
use Rattle.std.proofs.lemmas.List.Elements.{All-set, All-weaker}
use Rattle.er_lines.specs.Lines.{has_bytes}
use Rattle.er_lines.specs.Naming.{is_name, is_site_byte}
use Rattle.er_lines.specs.Ready.{IsRight, KeepsNames, are_operands, is_ready, kind_behind, name_by, operand_name, thread_name}
use Rattle.er_lines.specs.declared.ready.NameKind.{NameKind}
use Rattle.er_lines.specs.declared.ready.NameKind.TheVariants as names
use Rattle.er_lines.specs.declared.ready.ReadyLine.{ReadyLine}
use Rattle.er_lines.specs.declared.ready.ReadyVerb.{ReadyVerb}
use Rattle.er_lines.specs.declared.ready.ReadyVerb.TheVariants as does
use Rattle.er_lines.proofs.ByteLemmas.{name_printed}
use Rattle.er_lines.proofs.ReadyLaws.{ready_parts, right_form}
use Rattle.er_trace.specs.Names.{NameTable}
use Rattle.er_trace.specs.Trace.{HasNames, Recording, with_lock_name, with_step, with_thread_name}
use Rattle.er_trace.specs.Names.{is_known, number_of}
use Rattle.er_trace.proofs.NumberLemmas.{again, given, kept, still}
use Rattle.er_text.specs.Events.{with_line}
use Rattle.er_text.specs.Named.{KeepsNumbers, KeepsNames as KeepsTable}
use Rattle.er_text.specs.Inner.Numbers.{AreRight, IsNumber, is_known_as, number_as, with_name_of}
use Rattle.er_text.specs.Inner.Ready.{hold_event, is_access, ready_event}
use Rattle.er_text.specs.declared.numbers.KnownNumbers.{KnownNumbers}
use Rattle.er_text.specs.declared.numbers.Slot.{Slot}
use Rattle.er_text.proofs.AddingLemmas.{lock_named, site_named, thread_named}
use Rattle.er_text.proofs.ReadyLemmas.{read_small, ready_printed, thread_bytes, write_small}

-- a turn that begins has no number
pub forgotten : (of : NameKind → ℕ → List ℕ) (table : NameTable) (slots : List Slot) (old new : ℕ) → old < new → All (λ (slot : Slot). slot.turn ≤ old) slots
    → All (λ (slot : Slot). slot.turn ≡ new → IsNumber of table slot.kind slot.name slot.number) slots
forgotten of table slots old new less past =
    let P : Slot → Type 0 = λ slot. slot.turn ≤ old in
    let Q : Slot → Type 0 = λ slot. slot.turn ≡ new → IsNumber of table slot.kind slot.name slot.number in
    All-weaker P Q (λ slot most is. absurd (omega (arith, less, most, is))) slots past

-- slots of no turn have none of this one
pub unturned : (of : NameKind → ℕ → List ℕ) (table : NameTable) (slots : List Slot) (turn : ℕ) → 1 ≤ turn → All (λ (slot : Slot). slot.turn ≡ 0) slots
    → All (λ (slot : Slot). slot.turn ≡ turn → IsNumber of table slot.kind slot.name slot.number) slots
unturned of table slots turn some none =
    let P : Slot → Type 0 = λ slot. slot.turn ≡ 0 in
    let Q : Slot → Type 0 = λ slot. slot.turn ≡ turn → IsNumber of table slot.kind slot.name slot.number in
    All-weaker P Q (λ slot zero is. absurd (omega (arith, some, zero, is))) slots none

pub put_all : (P : Slot → Type 0) (inside : Bool) (old new : List Slot) (place : ℕ) (slot : Slot) → new ≡ (if inside then slice_set old place slot else old) → P slot → All P old → All P new
put_all P true old new place slot is one all = rw is (All-set P old place slot one all)
put_all P false old new place slot is one all = rw is all

still_as : (k j : NameKind) (r : Recording) (later name : List ℕ) → is_known_as k r.names name ≡ true → is_known_as k (with_name_of j r later).names name ≡ true
still_as names.Thread names.Thread r later name known = still r.names.threads name later known
still_as names.Thread names.Lock r later name known = known
still_as names.Thread names.Site r later name known = known
still_as names.Lock names.Thread r later name known = known
still_as names.Lock names.Lock r later name known = still r.names.locks name later known
still_as names.Lock names.Site r later name known = known
still_as names.Site names.Thread r later name known = known
still_as names.Site names.Lock r later name known = known
still_as names.Site names.Site r later name known = still r.names.sites name later known

kept_as : (k j : NameKind) (r : Recording) (later name : List ℕ) → is_known_as k r.names name ≡ true → number_as k (with_name_of j r later).names name ≡ number_as k r.names name
kept_as names.Thread names.Thread r later name known = kept r.names.threads name later known
kept_as names.Thread names.Lock r later name known = refl
kept_as names.Thread names.Site r later name known = refl
kept_as names.Lock names.Thread r later name known = refl
kept_as names.Lock names.Lock r later name known = kept r.names.locks name later known
kept_as names.Lock names.Site r later name known = refl
kept_as names.Site names.Thread r later name known = refl
kept_as names.Site names.Lock r later name known = refl
kept_as names.Site names.Site r later name known = ap (λ (n : ℕ). n + 1) (kept r.names.sites name later known)

-- once one more name is there
pub right_grown : (of : NameKind → ℕ → List ℕ) (j : NameKind) (r s : Recording) (later : List ℕ) (known : KnownNumbers) → s ≡ with_name_of j r later → AreRight of r.names known → AreRight of s.names known
right_grown of j r s later known grown right =
    let P : Slot → Type 0 = λ slot. slot.turn ≡ known.turn → IsNumber of r.names slot.kind slot.name slot.number in
    let Q : Slot → Type 0 = λ slot. slot.turn ≡ known.turn → IsNumber of s.names slot.kind slot.name slot.number in
    All-weaker P Q (λ slot is now. let was = is now in rw grown (record {
      some = was.some;
      known = still_as slot.kind j r later (of slot.kind slot.name) was.known;
      is = was.is ∙ sym (kept_as slot.kind j r later (of slot.kind slot.name) was.known);
      small = was.small;
    })) known.slots.items right

-- the name itself has its number then
given_as : (j : NameKind) (r : Recording) (name : List ℕ) → (is_known_as j (with_name_of j r name).names name ≡ true) × (number_as j (with_name_of j r name).names name ≡ number_as j r.names name)
given_as names.Thread r name = (given r.names.threads name, again r.names.threads name)
given_as names.Lock r name = (given r.names.locks name, again r.names.locks name)
given_as names.Site r name = (given r.names.sites name, ap (λ (n : ℕ). n + 1) (again r.names.sites name))

pub new_number : (of : NameKind → ℕ → List ℕ) (j : NameKind) (r s : Recording) (n number : ℕ) → has_bytes (of j n) ≡ true → number ≡ number_as j r.names (of j n) → (j ≡ names.Thread → number < 2 ^ 30)
    → s ≡ with_name_of j r (of j n) → IsNumber of s.names j n number
new_number of j r s n number some is small grown =
    let new = given_as j r (of j n) in rw grown (record { some = some; known = new.0; is = is ∙ sym new.1; small = small })

-- a name that is known changes nothing
pub known_same : (j : NameKind) (r : Recording) (name : List ℕ) → is_known_as j r.names name ≡ true → r ≡ with_name_of j r name
known_same names.Thread r name known = rw known refl
known_same names.Lock r name known = rw known refl
known_same names.Site r name known = rw known refl

-- while the reader keeps its names
pub right_kept : (old new : NameKind → ℕ → List ℕ) (table : NameTable) (known : KnownNumbers) → KeepsNames old new → AreRight old table known → AreRight new table known
right_kept old new table known keeps right =
    let P : Slot → Type 0 = λ slot. slot.turn ≡ known.turn → IsNumber old table slot.kind slot.name slot.number in
    let Q : Slot → Type 0 = λ slot. slot.turn ≡ known.turn → IsNumber new table slot.kind slot.name slot.number in
    All-weaker P Q (λ slot is now.
    let was = is now in
    let same = keeps slot.kind slot.name was.some in
    record {
      some = ap has_bytes same ∙ was.some;
      known = ap (is_known_as slot.kind table) same ∙ was.known;
      is = was.is ∙ ap (number_as slot.kind table) (sym same);
      small = was.small;
    }) known.slots.items right

-- names that keep their places have the numbers that they had
first_on : (hit before after : Bool) (m n : ℕ) → (hit || before) ≡ true → (before ≡ true → (after ≡ true) × (n ≡ m)) → ((hit || after) ≡ true) × (cond (not hit) (1 + n) 0 ≡ cond (not hit) (1 + m) 0)
first_on true before after m n known rest = (refl, refl)
first_on false before after m n known rest = let found = rest known in (found.0, ap (λ (i : ℕ). 1 + i) found.1)

list_on : (old new : List (List ℕ)) (name : List ℕ) → KeepsNumbers old new → is_known old name ≡ true → (is_known new name ≡ true) × (number_of new name ≡ number_of old name)
list_on [] new name keeps known = absurd (cc known)
list_on (a ∷ old) [] name keeps known = let none : None ≡ Some a = keeps 0 a refl in absurd (cc none)
list_on (a ∷ old) (b ∷ new) name keeps known =
    let first : Some b ≡ Some a = keeps 0 a refl in
    let here : b ≡ a = cc first in
    rw here (first_on (bytes_eq name a) (is_known old name) (is_known new name) (number_of old name) (number_of new name) known (list_on old new name (λ n x is. keeps (suc n) x is)))

number_on : (k : NameKind) (old new : NameTable) (name : List ℕ) → KeepsTable old new → is_known_as k old name ≡ true → (is_known_as k new name ≡ true) × (number_as k new name ≡ number_as k old name)
number_on names.Thread old new name keeps known = list_on old.threads new.threads name keeps.threads known
number_on names.Lock old new name keeps known = list_on old.locks new.locks name keeps.locks known
number_on names.Site old new name keeps known = let on = list_on old.sites new.sites name keeps.sites known in (on.0, ap (λ (n : ℕ). n + 1) on.1)

-- while the trace keeps its names
pub right_on : (of : NameKind → ℕ → List ℕ) (old new : NameTable) (known : KnownNumbers) → KeepsTable old new → AreRight of old known → AreRight of new known
right_on of old new known keeps right =
    let P : Slot → Type 0 = λ slot. slot.turn ≡ known.turn → IsNumber of old slot.kind slot.name slot.number in
    let Q : Slot → Type 0 = λ slot. slot.turn ≡ known.turn → IsNumber of new slot.kind slot.name slot.number in
    All-weaker P Q (λ slot is now.
    let was = is now in
    let on = number_on slot.kind old new (of slot.kind slot.name) keeps was.known in
    record { some = was.some; known = on.0; is = was.is ∙ sym on.1; small = was.small }) known.slots.items right

-- what a line's verb says of its name
name_some : (w : List ℕ) → is_name w ≡ true → has_bytes w ≡ true
name_some [] is = absurd (cc is)
name_some (b ∷ bs) is = refl

pub thread_some : (of : NameKind → ℕ → List ℕ) (line : ReadyLine) → IsRight of line → has_bytes (of names.Thread line.thread) ≡ true
thread_some of line right = name_some (thread_name of line) (ready_parts line.verb line.address (thread_name of line) (operand_name of line) (right_form of line right)).0

behind_access : (v : ReadyVerb) → is_access v ≡ true → kind_behind v ≡ names.Site
behind_access does.Read is = refl
behind_access does.Write is = refl
behind_access does.Lock is = absurd (cc is)
behind_access does.Unlock is = absurd (cc is)
behind_access does.ReadLock is = absurd (cc is)
behind_access does.ReadUnlock is = absurd (cc is)

behind_hold : (v : ReadyVerb) → is_access v ≡ false → kind_behind v ≡ names.Lock
behind_hold does.Read is = absurd (cc is)
behind_hold does.Write is = absurd (cc is)
behind_hold does.Lock is = refl
behind_hold does.Unlock is = refl
behind_hold does.ReadLock is = refl
behind_hold does.ReadUnlock is = refl

hold_some : (v : ReadyVerb) (address : ℕ) (of : ℕ → List ℕ) (name : Option ℕ) → is_access v ≡ false → are_operands v address (name_by of name) ≡ true → name ≡ Some (unwrap_or name 0)
hold_some does.Read address of name is right = absurd (cc is)
hold_some does.Write address of name is right = absurd (cc is)
hold_some does.Lock address of None is right = absurd (cc right)
hold_some does.Unlock address of None is right = absurd (cc right)
hold_some does.ReadLock address of None is right = absurd (cc right)
hold_some does.ReadUnlock address of None is right = absurd (cc right)
hold_some does.Lock address of (Some n) is right = refl
hold_some does.Unlock address of (Some n) is right = refl
hold_some does.ReadLock address of (Some n) is right = refl
hold_some does.ReadUnlock address of (Some n) is right = refl

named_by : (of : NameKind → ℕ → List ℕ) (k j : NameKind) (name : Option ℕ) (n : ℕ) → k ≡ j → name ≡ Some n → IfSome name (λ m. has_bytes (of k m) ≡ true) → (has_bytes (of j n) ≡ true) × (name_by (of k) name ≡ of j n)
named_by of k j name n same is named = let some = rw (same, is) at named in (some, rw (same, is) refl)

-- an access at a site, and one at none
pub access_named : (of : NameKind → ℕ → List ℕ) (line : ReadyLine) (n : ℕ) → is_access line.verb ≡ true → IsRight of line → line.name ≡ Some n → (has_bytes (of names.Site n) ≡ true) × (operand_name of line ≡ of names.Site n)
access_named of line n is right some = named_by of (kind_behind line.verb) names.Site line.name n (behind_access line.verb is) some right.named

pub hold_named : (of : NameKind → ℕ → List ℕ) (line : ReadyLine) → is_access line.verb ≡ false → IsRight of line
    → (has_bytes (of names.Lock (unwrap_or line.name 0)) ≡ true) × (operand_name of line ≡ of names.Lock (unwrap_or line.name 0))
hold_named of line is right =
    let parts = ready_parts line.verb line.address (thread_name of line) (operand_name of line) (right_form of line right) in
    named_by of (kind_behind line.verb) names.Lock line.name (unwrap_or line.name 0) (behind_hold line.verb is) (hold_some line.verb line.address (of (kind_behind line.verb)) line.name is parts.1) right.named

-- it is one line
pub hold_alone : (of : NameKind → ℕ → List ℕ) (line : ReadyLine) → is_access line.verb ≡ false → IsRight of line → line.count ≡ 1
hold_alone of line is right = right.alone (behind_hold line.verb is)

-- what a lock event adds
pub hold_added : (v : ReadyVerb) (line address : ℕ) (thread lock : List ℕ) (r : Recording) → is_access v ≡ false
    → with_line line (ready_event v address thread lock) r
    ≡ with_step (with_lock_name (with_thread_name r thread) lock) (record { thread = number_of r.names.threads thread; event = hold_event v (number_of r.names.locks lock) }) line 0
hold_added does.Read line address thread lock r is = absurd (cc is)
hold_added does.Write line address thread lock r is = absurd (cc is)
hold_added does.Lock line address thread lock r is = refl
hold_added does.Unlock line address thread lock r is = refl
hold_added does.ReadLock line address thread lock r is = refl
hold_added does.ReadUnlock line address thread lock r is = refl

-- the bytes of both names, and the address of an access
pub thread_printed : (of : NameKind → ℕ → List ℕ) (line : ReadyLine) → IsRight of line → list_all is_site_byte (of names.Thread line.thread) ≡ true
thread_printed of line right = name_printed (thread_name of line) (thread_bytes line.verb line.address (thread_name of line) (operand_name of line) (right_form of line right))

pub operand_printed : (of : NameKind → ℕ → List ℕ) (line : ReadyLine) (name : List ℕ) → IsRight of line → operand_name of line ≡ name → list_all is_site_byte name ≡ true
operand_printed of line name right is = let printed = ready_printed line.verb line.address (thread_name of line) (operand_name of line) (right_form of line right) in rw is at printed

pub access_small : (v : ReadyVerb) (address : ℕ) (thread name : List ℕ) → is_access v ≡ true → is_ready v address thread name ≡ true → address < 2 ^ 48
access_small does.Read address thread name is right = read_small does.Read address thread name refl right
access_small does.Write address thread name is right = write_small does.Write address thread name refl right
access_small does.Lock address thread name is right = absurd (cc is)
access_small does.Unlock address thread name is right = absurd (cc is)
access_small does.ReadLock address thread name is right = absurd (cc is)
access_small does.ReadUnlock address thread name is right = absurd (cc is)

-- and those of all its words
pub words_small : (of : NameKind → ℕ → List ℕ) (line : ReadyLine) → is_access line.verb ≡ true → IsRight of line → line.address / 4 + line.count ≤ 2 ^ 46
words_small of line is right =
    let some = right.some in
    let last = access_small line.verb (line.address + 4 * (line.count - 1)) (thread_name of line) (operand_name of line) is (right.form (line.count - 1) (omega (arith, some))) in
    omega (arith, some, last)

-- both have their numbers once they are added
pub at_named : (r t s : Recording) (thread site : List ℕ) (by at : ℕ) → by ≡ number_of r.names.threads thread → t ≡ with_thread_name r thread
    → at ≡ number_of t.names.sites site + 1 → s ≡ with_name_of names.Site t site → (by < length s.names.threads) × (at ≤ length s.names.sites)
at_named r t s thread site by at number grown placed more = site_named t s (Some site) at by (thread_named r t thread by number grown) placed more

pub holds_named : (r t s : Recording) (thread lock : List ℕ) (by n : ℕ) → by ≡ number_of r.names.threads thread → t ≡ with_thread_name r thread
    → n ≡ number_of t.names.locks lock → s ≡ with_lock_name t lock → (by < length s.names.threads) × (n < length s.names.locks)
holds_named r t s thread lock by n number grown locked more = lock_named t s lock n by (thread_named r t thread by number grown) locked more

pub hold_has : (v : ReadyVerb) (names : NameTable) (n : ℕ) → n < length names.locks → HasNames names (hold_event v n)
hold_has does.Read names n known = known
hold_has does.Write names n known = known
hold_has does.Lock names n known = known
hold_has does.Unlock names n known = known
hold_has does.ReadLock names n known = known
hold_has does.ReadUnlock names n known = known

pub hold_line : (v : ReadyVerb) (line address : ℕ) (r t s : Recording) (thread lock : List ℕ) (by n : ℕ) → is_access v ≡ false → by ≡ number_of r.names.threads thread → t ≡ with_thread_name r thread
    → n ≡ number_of t.names.locks lock → s ≡ with_lock_name t lock → with_step s (record { thread = by; event = hold_event v n }) line 0 ≡ with_line line (ready_event v address thread lock) r
hold_line v line address r t s thread lock by n is number grown locked more = rw (more, locked, grown, number) (sym (hold_added v line address thread lock r is))

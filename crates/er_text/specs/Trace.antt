-- The grammar of traces, and the fault of a text that is none. It speaks of whole lines, and knows no reading.
use Rattle.std.specs.Prelude.{◌≡◌, ℕ, ◌+◌, ◌/◌, ◌^◌, ◌<◌, ◌≤◌, ◌||◌, ◌&&◌, ◌⊎◌, Bool, true, false, not, List, [], ◌∷◌, ◌++◌, Option, Some, None, Result, Ok, Err, length, drop, filter, nat_lt, nat_le, codes, if◌then◌else◌}
use Rattle.std.specs.List.{AllByRecursion, list_any}
use Rattle.std.specs.Option.{is_some}
use Rattle.std.specs.Str.{bytes_eq}
use Rattle.er_trace.specs.Trace.{Recording, no_steps}
use Rattle.er_event.specs.Span.{most_bytes}
use Rattle.er_event.specs.declared.steps.Kind.{Kind}
use Rattle.er_event.specs.declared.steps.Kind.TheVariants as kind
use Rattle.er_event.specs.declared.steps.Mode.{Mode}
use Rattle.er_event.specs.declared.steps.Mode.TheVariants as mode
use Rattle.er_lines.specs.declared.faults.TextKind.{TextKind}
use Rattle.er_lines.specs.declared.faults.TextKind.TheVariants.{NoHeader, BadName, MissingOperand, BadVerb, ExtraOperand, BadNumber, SizeTooLarge, AddressOutOfRange, LevelTooHigh, OwnThread, AlreadyRunning, AfterEnd}
use Rattle.er_lines.specs.declared.faults.ReadFault.{ReadFault}
use Rattle.er_lines.specs.declared.faults.ReadFault.TheVariants as fault
use Rattle.er_lines.specs.declared.faults.TextFault.{TextFault}
use Rattle.er_text.specs.declared.verbs.Verb.{Verb}
use Rattle.er_text.specs.declared.verbs.Verb.TheVariants as verb
use Rattle.er_text.specs.declared.verbs.Version.{Version}
use Rattle.er_text.specs.declared.stages.Stage.{Stage}
use Rattle.er_text.specs.declared.stages.Stage.TheVariants.{Front, Events, Ended}
use Rattle.er_lines.specs.Lines.{Placed, placed, has_content, has_bytes, words, word_at}
use Rattle.er_lines.specs.FirstFault.{IsPlain, known_after, HasNone, IsFirstFaulty}
use Rattle.er_lines.specs.Number.{number_of, number_at, is_number_at}
use Rattle.er_lines.specs.Naming.{is_name, is_lock_name}
use Rattle.er_text.specs.Naming.{is_site_word}
use Rattle.er_text.specs.Verbs.{version_word, has_levels, is_third, verb_of, version_of, least_of, most_of}
use Rattle.er_text.specs.Events.{EventLine, Operation, Acquires, Releases, Accesses, Reuses, IgnoresOn, IgnoresOff, Shows, Levels, Starts, Joins, Signals, Awaits, run_of, with_line}

abbrev pub acquire_word : Mode → List ℕ
acquire_word mode.Write = codes "lock"
acquire_word mode.Read = codes "rlock"

abbrev pub release_word : Mode → List ℕ
release_word mode.Write = codes "unlock"
release_word mode.Read = codes "runlock"

abbrev pub kind_word : Kind → List ℕ
kind_word kind.Read = codes "read"
kind_word kind.Write = codes "write"

-- the words behind an address name this site, or none, in a text of this version: no word does, and `-`
abbrev pub IsSite : Version → List (List ℕ) → Option (List ℕ) → Type 0
IsSite v [] site = site ≡ None
IsSite v (word ∷ []) site = (is_site_word v word ≡ true) × (site ≡ (if bytes_eq word (codes "-") then None else Some word))
IsSite v (word ∷ more ∷ words) site = ⊥

-- the words behind the size of a reuse name this site, or none: a text 3 alone may have one there
abbrev pub IsReuseSite : Version → List (List ℕ) → Option (List ℕ) → Type 0
IsReuseSite v [] site = site ≡ None
IsReuseSite v (word ∷ words) site = (is_third v ≡ true) × IsSite v (word ∷ words) site

-- the words with which a thread does this, in a text of this version
abbrev pub IsOperation : Version → List (List ℕ) → List ℕ → Operation → Type 0
IsOperation v words thread (Acquires lock m) = (words ≡ thread ∷ acquire_word m ∷ lock ∷ []) × (is_lock_name lock ≡ true)
IsOperation v words thread (Releases lock m) = (words ≡ thread ∷ release_word m ∷ lock ∷ []) × (is_lock_name lock ≡ true)
IsOperation v words thread (Accesses k w site) =
    (address : List ℕ) × (n : ℕ) × (behind : List (List ℕ)) × (words ≡ thread ∷ kind_word k ∷ address ∷ behind)
    × (number_of address ≡ Some n) × (n < 2 ^ 48) × (w ≡ n / 4) × IsSite v behind site
IsOperation v words thread (Reuses run site) =
    (address size : List ℕ) × (a n : ℕ) × (behind : List (List ℕ)) × (words ≡ thread ∷ codes "reuse" ∷ address ∷ size ∷ behind)
    × (number_of address ≡ Some a) × (number_of size ≡ Some n) × (n ≤ most_bytes) × (a < 2 ^ 48) × (a + n ≤ 2 ^ 48) × (run ≡ run_of a n) × IsReuseSite v behind site
IsOperation v words thread IgnoresOn = words ≡ thread ∷ codes "ignore-on" ∷ []
IsOperation v words thread IgnoresOff = words ≡ thread ∷ codes "ignore-off" ∷ []
IsOperation v words thread (Shows w) =
    (address : List ℕ) × (n : ℕ) × (words ≡ thread ∷ codes "show" ∷ address ∷ []) × (number_of address ≡ Some n) × (n < 2 ^ 48) × (w ≡ n / 4)
IsOperation v words thread (Levels n) =
    (level : List ℕ) × (words ≡ thread ∷ codes "level" ∷ level ∷ []) × (number_of level ≡ Some n) × (n ≤ 31) × (has_levels v ≡ true)
IsOperation v words thread (Starts other) = (words ≡ thread ∷ codes "start" ∷ other ∷ []) × (is_name other ≡ true) × (is_third v ≡ true)
IsOperation v words thread (Joins other) = (words ≡ thread ∷ codes "join" ∷ other ∷ []) × (is_name other ≡ true) × (is_third v ≡ true)
IsOperation v words thread (Signals object) = (words ≡ thread ∷ codes "signal" ∷ object ∷ []) × (is_lock_name object ≡ true) × (is_third v ≡ true)
IsOperation v words thread (Awaits object) = (words ≡ thread ∷ codes "await" ∷ object ∷ []) × (is_lock_name object ≡ true) × (is_third v ≡ true)

-- what an event line says
abbrev pub Says : Version → List (List ℕ) → EventLine → Type 0
Says v words s = (is_name s.thread ≡ true) × IsOperation v words s.thread s.operation

-- event lines and what they say, one for one
abbrev pub AllSay : Version → List Placed → List EventLine → Type 0
AllSay v [] [] = Unit {0}
AllSay v (p ∷ ps) (s ∷ ss) = Says v (words p.line.bytes) s × AllSay v ps ss
AllSay v [] (s ∷ ss) = ⊥
AllSay v (p ∷ ps) [] = ⊥

-- the thread acts in a line before, if these act there
abbrev pub has_acted : List (List ℕ) → List ℕ → Bool
has_acted actors thread = list_any (bytes_eq thread) actors

-- behind lines in which these act, a thread may do this: it neither starts nor joins itself, and a thread that it starts has not acted
abbrev pub MayDo : List (List ℕ) → List ℕ → Operation → Type 0
MayDo actors thread (Starts other) = (bytes_eq other thread ≡ false) × (has_acted actors other ≡ false)
MayDo actors thread (Joins other) = bytes_eq other thread ≡ false
MayDo actors thread _ = Unit {0}

-- each event line may come behind those before it, and behind lines in which these act
abbrev pub AreInOrder : List (List ℕ) → List EventLine → Type 0
AreInOrder actors [] = Unit {0}
AreInOrder actors (s ∷ ss) = MayDo actors s.thread s.operation × AreInOrder (s.thread ∷ actors) ss

-- what may come behind the event lines: nothing, and in a text 3 the line `end`
abbrev pub IsClosing : Version → List Placed → Type 0
IsClosing v [] = Unit {0}
IsClosing v (p ∷ []) = (is_third v ≡ true) × (words p.line.bytes ≡ codes "end" ∷ [])
IsClosing v (p ∷ q ∷ ps) = ⊥

-- the steps of event lines in order, with names numbered by first appearance
abbrev pub with_lines : List Placed → List EventLine → Recording → Recording
with_lines (p ∷ ps) (s ∷ ss) r = with_lines ps ss (with_line p.number s r)
with_lines (p ∷ ps) [] r = r
with_lines [] ss r = r

abbrev pub header_words : Version → List (List ℕ)
header_words v = codes "eraser" ∷ codes "trace" ∷ version_word v ∷ []

abbrev pub lock_kinds : List (List ℕ) → List (Bool × TextKind)
lock_kinds operands = (not (is_lock_name (word_at 0 operands)), BadName) ∷ []

-- a word where a site may stand that is none
abbrev pub site_kind : Version → List ℕ → Bool × TextKind
site_kind version word = (has_bytes word && not (is_site_word version word), BadName)

abbrev pub access_kinds : Version → List (List ℕ) → List (Bool × TextKind)
access_kinds version operands =
    (not (is_number_at 0 operands), BadNumber)
    ∷ site_kind version (word_at 1 operands)
    ∷ (nat_le (2 ^ 48) (number_at 0 operands), AddressOutOfRange) ∷ []

abbrev pub reuse_kinds : Version → List (List ℕ) → List (Bool × TextKind)
reuse_kinds version operands =
    (not (is_number_at 0 operands), BadNumber) ∷ (not (is_number_at 1 operands), BadNumber) ∷ site_kind version (word_at 2 operands)
    ∷ (nat_lt most_bytes (number_at 1 operands), SizeTooLarge)
    ∷ (nat_le (2 ^ 48) (number_at 0 operands) || nat_lt (2 ^ 48) (number_at 0 operands + number_at 1 operands), AddressOutOfRange) ∷ []

abbrev pub show_kinds : List (List ℕ) → List (Bool × TextKind)
show_kinds operands = (not (is_number_at 0 operands), BadNumber) ∷ (nat_le (2 ^ 48) (number_at 0 operands), AddressOutOfRange) ∷ []

abbrev pub level_kinds : List (List ℕ) → List (Bool × TextKind)
level_kinds operands = (not (is_number_at 0 operands), BadNumber) ∷ (nat_lt 31 (number_at 0 operands), LevelTooHigh) ∷ []

abbrev pub thread_kinds : List (List ℕ) → List (Bool × TextKind)
thread_kinds operands = (not (is_name (word_at 0 operands)), BadName) ∷ []

abbrev pub operand_kinds : Version → Verb → List (List ℕ) → List (Bool × TextKind)
operand_kinds version verb.Lock operands = lock_kinds operands
operand_kinds version verb.Unlock operands = lock_kinds operands
operand_kinds version verb.ReadLock operands = lock_kinds operands
operand_kinds version verb.ReadUnlock operands = lock_kinds operands
operand_kinds version verb.Read operands = access_kinds version operands
operand_kinds version verb.Write operands = access_kinds version operands
operand_kinds version verb.Reuse operands = reuse_kinds version operands
operand_kinds version verb.IgnoreOn operands = []
operand_kinds version verb.IgnoreOff operands = []
operand_kinds version verb.Show operands = show_kinds operands
operand_kinds version verb.Level operands = level_kinds operands
operand_kinds version verb.Start operands = thread_kinds operands
operand_kinds version verb.Join operands = thread_kinds operands
operand_kinds version verb.Signal operands = lock_kinds operands
operand_kinds version verb.Await operands = lock_kinds operands

abbrev pub verb_kinds : Version → Option Verb → List (List ℕ) → List (Bool × TextKind)
verb_kinds version None operands = (true, BadVerb) ∷ []
verb_kinds version (Some v) operands =
    (nat_lt (length operands) (least_of v), MissingOperand) ∷ (nat_lt (most_of version v) (length operands), ExtraOperand) ∷ operand_kinds version v operands

-- the faults of an event line, in their order
abbrev pub event_kinds : Version → List (List ℕ) → List (Bool × TextKind)
event_kinds v words =
    (not (is_name (word_at 0 words)), BadName) ∷ (nat_lt (length words) 2, MissingOperand)
    ∷ verb_kinds v (verb_of v (word_at 1 words)) (drop 2 words)

-- the version that the words of a header tell, and none where they aren't a header
abbrev pub version_in : List (List ℕ) → Option Version
version_in words = version_of (word_at 0 words) (word_at 1 words) (word_at 2 words) (word_at 3 words)

-- the faults that a start or a join has besides those of its words
abbrev pub order_kinds : List (List ℕ) → List (List ℕ) → List (Bool × TextKind)
order_kinds actors words =
    if bytes_eq (word_at 1 words) (codes "start")
    then (bytes_eq (word_at 2 words) (word_at 0 words), OwnThread) ∷ (has_acted actors (word_at 2 words), AlreadyRunning) ∷ []
    else if bytes_eq (word_at 1 words) (codes "join") then (bytes_eq (word_at 2 words) (word_at 0 words), OwnThread) ∷ []
    else []

-- these are the words of the line `end`
abbrev pub is_end : Version → List (List ℕ) → Bool
is_end v words = is_third v && bytes_eq (word_at 0 words) (codes "end") && not (has_bytes (word_at 1 words))

-- what lines make known to those behind them: how far the text has come, and which threads act in event lines, the latest first
pub record Known : Type 0 where
  pub stage : Stage
  pub actors : List (List ℕ)

abbrev pub nothing_known : Known
nothing_known = record { stage = Front; actors = [] }

-- the faults of the words of a line: before the header, behind one of this version, behind the line `end`
abbrev pub word_kinds : Stage → List (List ℕ) → List (List ℕ) → List (Bool × TextKind)
word_kinds Front actors words = (not (is_some (version_in words)), NoHeader) ∷ []
word_kinds (Events v) actors words = if is_end v words then [] else event_kinds v words ++ order_kinds actors words
word_kinds Ended actors words = (true, AfterEnd) ∷ []

-- the faults of what a line says, in their order
abbrev pub content_kinds : Known → Placed → List (Bool × TextKind)
content_kinds known p = if has_content p then word_kinds known.stage known.actors (words p.line.bytes) else []

abbrev pub opened_by : Option Version → Stage
opened_by None = Front
opened_by (Some v) = Events v

-- what is known once these words are past
abbrev pub known_by : Stage → List (List ℕ) → List (List ℕ) → Known
known_by Front actors words = record { stage = opened_by (version_in words); actors = actors }
known_by (Events v) actors words =
    if is_end v words then record { stage = Ended; actors = actors } else record { stage = Events v; actors = word_at 0 words ∷ actors }
known_by Ended actors words = record { stage = Ended; actors = actors }

-- what is known once this line is past
abbrev pub known_past : Known → Placed → Known
known_past known p = if has_content p then known_by known.stage known.actors (words p.line.bytes) else known

-- no line has a fault, and none is a header
abbrev pub IsEmpty : ℕ → List Placed → TextFault → Type 0
IsEmpty limit lines f =
    HasNone limit content_kinds known_past nothing_known lines × ((known_after known_past nothing_known lines).stage ≡ Front)
    × (f ≡ record { line = 1 + length lines; kind = NoHeader })

-- the fault of a text
abbrev pub IsFault : List ℕ → ℕ → TextFault → Type 0
IsFault text limit f = IsFirstFaulty limit content_kinds known_past nothing_known (placed text) f ⊎ IsEmpty limit (placed text) f

-- a text is a trace: in its limits, and of its lines with content the first is a header, and the others say the trace's steps in
-- order, but for the line `end`
pub record IsTrace (text : List ℕ) (limit : ℕ) (t : Recording) : Type 0 where
  pub short : length text ≤ limit
  pub plain : AllByRecursion IsPlain (placed text)
  pub header : Placed
  pub events : List Placed
  pub closing : List Placed
  pub content : filter has_content (placed text) ≡ header ∷ events ++ closing
  pub version : Version
  pub opens : words header.line.bytes ≡ header_words version
  pub closes : IsClosing version closing
  pub event_lines : List EventLine
  pub says : AllSay version events event_lines
  pub in_order : AreInOrder [] event_lines
  pub told : t ≡ with_lines events event_lines no_steps

-- what is told of a text: its trace, or its fault, unless memory or the reader failed
abbrev pub Tells : List ℕ → ℕ → Result Recording ReadFault → Type 0
Tells text limit (Ok trace) = IsTrace text limit trace
Tells text limit (Err (fault.Text f)) = IsFault text limit f
Tells text limit (Err fault.Memory) = Unit {0}
Tells text limit (Err fault.Read) = Unit {0}

-- What the words of a line say, as the code finds it out. The grammar stands apart from it, in `Trace`.
use Rattle.std.specs.Prelude.{ℕ, ◌+◌, ◌/◌, ◌^◌, ◌||◌, Bool, not, List, Option, Some, None, Result, Ok, Err, nat_lt, nat_le, codes, if◌then◌else◌}
use Rattle.std.specs.Str.{bytes_eq}
use denote.Ref.{Bor}
use Rattle.er_event.specs.Span.{Span}
use Rattle.er_event.specs.declared.steps.Kind.{Kind}
use Rattle.er_event.specs.declared.steps.Kind.TheVariants as kind
use Rattle.er_event.specs.declared.steps.Mode.TheVariants as mode
use Rattle.er_lines.specs.declared.faults.TextKind.{TextKind}
use Rattle.er_lines.specs.declared.faults.TextKind.TheVariants.{BadName, MissingOperand, BadVerb, ExtraOperand, SizeTooLarge, AddressOutOfRange, LevelTooHigh}
use Rattle.er_text.specs.declared.verbs.Verb.{Verb}
use Rattle.er_text.specs.declared.verbs.Verb.TheVariants as verb
use Rattle.er_text.specs.declared.verbs.Version.{Version}
use Rattle.er_text.specs.declared.parsing.Action.{Action}
use Rattle.er_text.specs.declared.parsing.Action.TheVariants as action
use Rattle.er_text.specs.declared.parsing.ParsedLine.{ParsedLine}
use Rattle.er_lines.specs.declared.words.Words.{Words}
use Rattle.er_lines.specs.Lines.{has_bytes, word_at}
use Rattle.er_lines.specs.Naming.{name_of, lock_name_of}
use Rattle.er_text.specs.Naming.{site_name_of}
use Rattle.er_text.specs.Verbs.{verb_of, least_of, most_of}
use Rattle.er_text.specs.Events.{Operation, Acquires, Releases, Accesses, Reuses, IgnoresOn, IgnoresOff, Shows, Levels, Starts, Joins, Signals, Awaits, EventLine, run_of}
use Rattle.er_lines.specs.Words.{and_then, map_ok, or_fault, number_in, seen_name, GivesBy}

abbrev pub name_in : List ℕ → Result (List ℕ) TextKind
name_in word = or_fault BadName (name_of word)

abbrev pub lock_in : List ℕ → Result (List ℕ) TextKind
lock_in word = or_fault BadName (lock_name_of word)

-- a missing word and `-` name no site
abbrev pub site_in : Version → List ℕ → Result (Option (List ℕ)) TextKind
site_in version word =
    if not (has_bytes word) || bytes_eq word (codes "-") then Ok None else map_ok Some (or_fault BadName (site_name_of version word))

abbrev pub word_in : ℕ → Result ℕ TextKind
word_in address = if nat_le (2 ^ 48) address then Err AddressOutOfRange else Ok (address / 4)

abbrev pub level_in : ℕ → Result ℕ TextKind
level_in n = if nat_lt 31 n then Err LevelTooHigh else Ok n

abbrev pub is_outside : ℕ → ℕ → Bool
is_outside address size = nat_le (2 ^ 48) address || nat_lt (2 ^ 48) (address + size)

abbrev pub run_in : ℕ → ℕ → Result (Option Span) TextKind
run_in address size =
    if nat_lt 4194304 size then Err SizeTooLarge else if is_outside address size then Err AddressOutOfRange else Ok (run_of address size)

abbrev pub access_in : Version → Kind → List ℕ → List ℕ → Result Operation TextKind
access_in version k address site = and_then (number_in address) (λ n. and_then (site_in version site) (λ s. map_ok (λ w. Accesses k w s) (word_in n)))

abbrev pub reuse_in : Version → List ℕ → List ℕ → List ℕ → Result Operation TextKind
reuse_in version address size site =
    and_then (number_in address) (λ a. and_then (number_in size) (λ n. and_then (site_in version site) (λ s. map_ok (λ run. Reuses run s) (run_in a n))))

abbrev pub operands_in : Version → Verb → List ℕ → List ℕ → List ℕ → Result Operation TextKind
operands_in version verb.Lock first second third = map_ok (λ l. Acquires l mode.Write) (lock_in first)
operands_in version verb.Unlock first second third = map_ok (λ l. Releases l mode.Write) (lock_in first)
operands_in version verb.ReadLock first second third = map_ok (λ l. Acquires l mode.Read) (lock_in first)
operands_in version verb.ReadUnlock first second third = map_ok (λ l. Releases l mode.Read) (lock_in first)
operands_in version verb.Read first second third = access_in version kind.Read first second
operands_in version verb.Write first second third = access_in version kind.Write first second
operands_in version verb.Reuse first second third = reuse_in version first second third
operands_in version verb.IgnoreOn first second third = Ok IgnoresOn
operands_in version verb.IgnoreOff first second third = Ok IgnoresOff
operands_in version verb.Show first second third = and_then (number_in first) (λ n. map_ok Shows (word_in n))
operands_in version verb.Level first second third = and_then (number_in first) (λ n. map_ok Levels (level_in n))
operands_in version verb.Start first second third = map_ok Starts (name_in first)
operands_in version verb.Join first second third = map_ok Joins (name_in first)
operands_in version verb.Signal first second third = map_ok Signals (lock_in first)
operands_in version verb.Await first second third = map_ok Awaits (lock_in first)

-- how many of four operands there are, of which those that are missing are empty
abbrev pub count_of : List ℕ → List ℕ → List ℕ → List ℕ → ℕ
count_of first second third fourth =
    if not (has_bytes first) then 0 else if not (has_bytes second) then 1 else if not (has_bytes third) then 2 else if not (has_bytes fourth) then 3 else 4

abbrev pub counted_in : Version → Verb → ℕ → List ℕ → List ℕ → List ℕ → Result Operation TextKind
counted_in version v count first second third =
    if nat_lt count (least_of v) then Err MissingOperand else if nat_lt (most_of version v) count then Err ExtraOperand else operands_in version v first second third

abbrev pub operation_in : Version → Option Verb → List ℕ → List ℕ → List ℕ → List ℕ → Result Operation TextKind
operation_in version None first second third fourth = Err BadVerb
operation_in version (Some v) first second third fourth = counted_in version v (count_of first second third fourth) first second third

-- what six words say, of which those that are missing are empty
abbrev pub parsed_in : Version → List ℕ → List ℕ → List ℕ → List ℕ → List ℕ → List ℕ → Result EventLine TextKind
parsed_in version thread verb first second third fourth =
    and_then (name_in thread) (λ t. if not (has_bytes verb) then Err MissingOperand
    else map_ok (λ operation. record { thread = t; operation = operation }) (operation_in version (verb_of version verb) first second third fourth))

-- what the words of a line say, or the first fault among them
abbrev pub parsed_of : Version → List (List ℕ) → Result EventLine TextKind
parsed_of version words = parsed_in version (word_at 0 words) (word_at 1 words) (word_at 2 words) (word_at 3 words) (word_at 4 words) (word_at 5 words)

abbrev pub parsed_by : Version → Words → Result EventLine TextKind
parsed_by version w = parsed_in version w.first.now w.second.now w.third.now w.fourth.now w.fifth.now w.sixth.now

abbrev pub action_view : Action → Operation
action_view (action.Acquire lock m) = Acquires lock.now m
action_view (action.Release lock m) = Releases lock.now m
action_view (action.Access k w site) = Accesses k w (seen_name site)
action_view (action.Reuse run site) = Reuses run (seen_name site)
action_view action.IgnoreOn = IgnoresOn
action_view action.IgnoreOff = IgnoresOff
action_view (action.Show w) = Shows w
action_view (action.Level n) = Levels n
action_view (action.Start other) = Starts other.now
action_view (action.Join other) = Joins other.now
action_view (action.Signal object) = Signals object.now
action_view (action.Await object) = Awaits object.now

abbrev pub event_line : ParsedLine → EventLine
event_line parsed_line = record { thread = parsed_line.thread.now; operation = action_view parsed_line.action }

abbrev pub GivesName : Result (Bor (List ℕ)) TextKind → Result (List ℕ) TextKind → Type 0
GivesName = GivesBy (λ name. name.now)

abbrev pub GivesOperation : Result Action TextKind → Result Operation TextKind → Type 0
GivesOperation = GivesBy action_view

abbrev pub GivesEventLine : Result ParsedLine TextKind → Result EventLine TextKind → Type 0
GivesEventLine = GivesBy event_line

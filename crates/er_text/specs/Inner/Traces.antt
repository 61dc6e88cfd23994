-- What the lines of a trace add to what was read of it.
use Rattle.std.specs.Prelude.{◌≡◌, ℕ, ◌+◌, not, Bool, List, [], Option, Some, None, Result, Ok, Err, if◌then◌else◌}
use Rattle.std.specs.List.{list_all}
use Rattle.er_trace.specs.Trace.{Recording, no_steps}
use Rattle.er_lines.specs.declared.faults.TextKind.{TextKind}
use Rattle.er_lines.specs.declared.faults.TextKind.TheVariants.{NoHeader, NotAscii, AfterEnd}
use Rattle.er_lines.specs.declared.faults.TextFault.{TextFault}
use Rattle.er_lines.specs.declared.faults.ReadFault.{ReadFault}
use Rattle.er_lines.specs.declared.faults.ReadFault.TheVariants as fault
use Rattle.er_text.specs.declared.reading.Batch.{Batch}
use Rattle.er_text.specs.declared.reading.Batch.TheVariants.{More, End}
use Rattle.er_text.specs.declared.verbs.Version.{Version}
use Rattle.er_text.specs.declared.stages.Stage.{Stage}
use Rattle.er_text.specs.declared.stages.Stage.TheVariants.{Front, Events, Ended}
use Rattle.er_text.specs.Places.{Reached}
use Rattle.er_lines.specs.Lines.{Placed, placed, says_something, words, is_ascii}
use Rattle.er_text.specs.Trace.{version_in, is_end}
use Rattle.er_text.specs.Events.{EventLine, with_line}
use Rattle.er_text.specs.Inner.Parsing.{parsed_of}
use Rattle.er_text.specs.Inner.Idle.{order_fault, idle_past}
use Rattle.er_lines.specs.Reading.{read_lines}

-- how far a reading has come: the number of the next line, the stage, the threads that are idle, and the steps so far
pub record Progress : Type 0 where
  pub number : ℕ
  pub stage : Stage
  pub idle : List Bool
  pub told : Recording

abbrev pub at_front : Progress
at_front = record { number = 1; stage = Front; idle = []; told = no_steps }

abbrev pub at_line : ℕ → Stage → List Bool → Recording → Progress
at_line number stage idle told = record { number = number; stage = stage; idle = idle; told = told }

abbrev pub progress : Reached → Recording → Progress
progress reader trace = at_line reader.place.number reader.stage reader.idle trace

abbrev pub skip : Progress → Progress
skip p = record p { number = p.number + 1 }

-- past an event line
abbrev pub past_event : ℕ → Progress → EventLine → Progress
past_event line p s =
    let told = with_line line s p.told in
    record p { number = p.number + 1; idle = idle_past p.told.names.threads told.names.threads s p.idle; told = told }

-- an event line, or its fault by the lines before it
abbrev pub add_event : ℕ → Progress → EventLine → Option TextKind → Result Progress TextKind
add_event line p s None = Ok (past_event line p s)
add_event line p s (Some kind) = Err kind

abbrev pub add_parsed : ℕ → Progress → Result EventLine TextKind → Result Progress TextKind
add_parsed line p (Ok s) = add_event line p s (order_fault p.told.names.threads p.idle s)
add_parsed line p (Err kind) = Err kind

abbrev pub open_with : Progress → Option Version → Result Progress TextKind
open_with p None = Err NoHeader
open_with p (Some version) = Ok (record p { number = p.number + 1; stage = Events version })

abbrev pub closed : Progress → Progress
closed p = record p { number = p.number + 1; stage = Ended }

-- the words of a line with content: before the header, behind one of this version, behind the line `end`
abbrev pub read_words : Stage → ℕ → Progress → List (List ℕ) → Result Progress TextKind
read_words Front line p words = open_with p (version_in words)
read_words (Events version) line p words = if is_end version words then Ok (closed p) else add_parsed line p (parsed_of version words)
read_words Ended line p words = Err AfterEnd

abbrev pub read_at : Progress → ℕ → List ℕ → Result Progress TextKind
read_at p line bytes = if says_something bytes then read_words p.stage line p (words bytes) else Ok (skip p)

-- a line in the limits
abbrev pub plain_at : Progress → ℕ → List ℕ → Result Progress TextKind
plain_at p line bytes = if not (list_all is_ascii bytes) then Err NotAscii else read_at p line bytes

abbrev pub read_content : Progress → Placed → Result Progress TextKind
read_content p line = read_at p line.number line.line.bytes

abbrev pub finish_as : Stage → Progress → Result Recording TextFault
finish_as Front p = Err (record { line = p.number; kind = NoHeader })
finish_as (Events version) p = Ok p.told
finish_as Ended p = Ok p.told

-- what was read, at the end of the text
abbrev pub finish : Result Progress TextFault → Result Recording TextFault
finish (Ok p) = finish_as p.stage p
finish (Err f) = Err f

-- what a reading of a text gives
abbrev pub read_text : ℕ → List ℕ → Result Recording TextFault
read_text limit text = finish (read_lines limit read_content (placed text) at_front)

-- what a call returned is this outcome, unless memory or the reader failed
abbrev pub IsOutcome : Result Recording TextFault → Result Recording ReadFault → Type 0
IsOutcome outcome (Ok trace) = outcome ≡ Ok trace
IsOutcome outcome (Err (fault.Text f)) = outcome ≡ Err f
IsOutcome outcome (Err fault.Memory) = Unit {0}
IsOutcome outcome (Err fault.Read) = Unit {0}

-- some lines were read and there may be more, or the text has ended, or the first fault was found
abbrev pub Batches : ℕ → Option (List Placed) → Option (List Placed) → Progress → Progress → Result Batch ReadFault → Type 0
Batches limit None rest p q result = Unit {0}
Batches limit (Some left) None p q (Ok More) = ⊥
Batches limit (Some left) (Some rest) p q (Ok More) = read_lines limit read_content left p ≡ read_lines limit read_content rest q
Batches limit (Some left) rest p q (Ok End) = (read_lines limit read_content left p ≡ Ok q) × (finish_as q.stage q ≡ Ok q.told)
Batches limit (Some left) rest p q (Err (fault.Text f)) = finish (read_lines limit read_content left p) ≡ Err f
Batches limit (Some left) rest p q (Err fault.Memory) = Unit {0}
Batches limit (Some left) rest p q (Err fault.Read) = Unit {0}

-- What a reader of batches has read of a text.
use Rattle.std.specs.Prelude.{ℕ, ◌++◌, List, Option, Some, Result, Ok, Err}
use Rattle.er_trace.specs.Trace.{Recording}
use Rattle.er_event.specs.declared.steps.Step.{Step}
use Rattle.er_lines.specs.declared.faults.ReadFault.{ReadFault}
use Rattle.er_lines.specs.declared.faults.ReadFault.TheVariants as fault
use Rattle.er_text.specs.declared.reading.Batch.{Batch}
use Rattle.er_text.specs.declared.reading.Batch.TheVariants.{More, End}
use Rattle.er_text.specs.Places.{Reached, no_tail}
use Rattle.er_lines.specs.Lines.{placed}
use Rattle.er_text.specs.Trace.{IsTrace, IsFault}
use Rattle.er_text.specs.Inner.Endings.{KeepsTail}
use Rattle.er_lines.specs.Lending.{lines_left}
use Rattle.er_lines.specs.Reading.{Continues}
use Rattle.er_text.specs.Inner.Traces.{progress, at_front, read_content}

-- a batch ends behind the line that brings its trace to so many steps
abbrev pub batch_steps : ℕ
batch_steps = 131072

-- steps, their lines and sites that the caller has taken away, and then those that the trace has, under its names
abbrev pub joined : List Step → List ℕ → List ℕ → Recording → Recording
joined steps lines sites trace = record { steps = steps ++ trace.steps; lines = lines ++ trace.lines; sites = sites ++ trace.sites; names = trace.names }

-- the reader has read some lines of this text. What they say is the steps taken away and then the trace: to read the lines that are
-- left behind it comes to what a reading of the whole text comes to, and they end as the text ends
abbrev pub HasRead : List ℕ → List Step → List ℕ → List ℕ → Reached → Option (List ℕ) → Recording → Type 0
HasRead text steps lines sites reader known trace =
    Continues reader.place.limit read_content (Some (placed text)) (lines_left reader.place known) at_front (progress reader (joined steps lines sites trace))
    × KeepsTail (Some (placed text)) (lines_left reader.place known) no_tail reader.tail

-- what a batch gives of a text that has been read so far: more steps behind the others, or the whole trace, or the text's fault
abbrev pub GivesBatch : List ℕ → List Step → List ℕ → List ℕ → Reached → Option (List ℕ) → Recording → Result Batch ReadFault → Type 0
GivesBatch text steps lines sites reader known trace (Ok More) = HasRead text steps lines sites reader known trace
GivesBatch text steps lines sites reader known trace (Ok End) = IsTrace text reader.place.limit (joined steps lines sites trace)
GivesBatch text steps lines sites reader known trace (Err (fault.Text f)) = IsFault text reader.place.limit f
GivesBatch text steps lines sites reader known trace (Err fault.Memory) = Unit {0}
GivesBatch text steps lines sites reader known trace (Err fault.Read) = Unit {0}

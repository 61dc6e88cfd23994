-- What `eraser explain` leaves on the output.
use Rattle.std.specs.Prelude.{◌≡◌, ℕ, Bool, true, false, List, Option, Some, None, Result, Ok, Err}
use Rattle.std.specs.Io.KnownBytes.{Appends}
use Rattle.er_exit.specs.declared.faults.Fault.{Fault}
use Rattle.er_exit.specs.declared.faults.Fault.TheVariants.{Text, NoStep, Memory, Read, Write}
use Rattle.er_story.specs.Story.{story_on}
use Rattle.er_story.specs.Text.{story_text}
use Rattle.er_story.specs.declared.story.Story.{Story}
use Rattle.er_text.specs.Trace.{IsTrace, IsFault}
use Rattle.er_trace.specs.Trace.{Recording}

-- the whole text of the story of the step on a line
abbrev pub WritesStory : Option (List ℕ) → Option (List ℕ) → Recording → ℕ → Type 0
WritesStory old new r line = (story : Story) × (story_on r line ≡ Some story) × Appends old new (story_text r.names story)

-- the text is a trace, and this is what was written of it
abbrev pub ExplainsTo : List ℕ → ℕ → ℕ → Option (List ℕ) → Option (List ℕ) → Type 0
ExplainsTo text limit line old new = (r : Recording) × IsTrace text limit r × WritesStory old new r line

-- the story of the step on a line has this fault: there is no such step, there was no memory, or a write failed
abbrev pub IsStoryFault : Recording → ℕ → Fault → Type 0
IsStoryFault r line (NoStep number) = (number ≡ line) × (story_on r line ≡ None)
IsStoryFault r line Memory = Unit {0}
IsStoryFault r line Write = Unit {0}
IsStoryFault r line fault = ⊥

-- the text has this fault, or it is a trace and the story has it, unless memory or the reader failed
abbrev pub IsExplainFault : List ℕ → ℕ → ℕ → Fault → Type 0
IsExplainFault text limit line (Text why) = IsFault text limit why
IsExplainFault text limit line Memory = Unit {0}
IsExplainFault text limit line Read = Unit {0}
IsExplainFault text limit line fault = (r : Recording) × IsTrace text limit r × IsStoryFault r line fault

-- the story was written, or there is a fault, and why
abbrev pub EndsStory : {X : Type 0} → List ℕ → ℕ → ℕ → Option (List ℕ) → Option (List ℕ) → Result X Fault → Type 0
EndsStory text limit line old new (Ok x) = ExplainsTo text limit line old new
EndsStory text limit line old new (Err why) = IsExplainFault text limit line why

-- the fault is a failed write exactly if the output has failed
abbrev pub FailsOutput : {X : Type 0} → Bool → Result X Fault → Type 0
FailsOutput failed (Ok x) = failed ≡ false
FailsOutput failed (Err Write) = failed ≡ true
FailsOutput failed (Err fault) = failed ≡ false

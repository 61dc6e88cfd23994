-- How far a pass has come that forgets its steps batch by batch.
use Rattle.std.specs.Prelude.{◌≡◌, ◌<◌, ◌≤◌, ◌++◌, ℕ, All, List, length, Option, Some, IfSome}
use Rattle.er_batch.specs.Analysts.{HasCounted}
use Rattle.er_batch.specs.Runs.{recorded}
use Rattle.er_batch.specs.Touching.{touch_on}
use Rattle.er_event.specs.declared.steps.Step.{Step}
use Rattle.er_parts.specs.Parts.{PartView, kept}
use Rattle.er_lines.specs.declared.ready.Touch.{Touch}
use Rattle.er_text.specs.Batches.{HasRead}
use Rattle.er_text.specs.Places.{Reached}
use Rattle.er_text.specs.Trace.{IsTrace}
use Rattle.er_trace.specs.Names.{NameTable}
use Rattle.er_reading.specs.Chunks.{chunk_lines, chunk_sites, chunk_steps}
use Rattle.er_reading.specs.declared.chunks.Chunk.{Chunk}
use Rattle.er_trace.specs.Trace.{Recording, without_steps}

-- a batch under these names
abbrev pub batch_of : List Chunk → NameTable → Recording
batch_of chunks names = recorded (chunk_steps chunks) (chunk_lines chunks) (chunk_sites chunks) names

-- between two batches: some steps were read and forgotten, and this stands for them; those of the last batch were read too, and are in its chunks
pub record HasCome (Stands : Recording → Type 0) (told known : Option (List ℕ)) (reader : Reached) (trace : Recording) (last : List Chunk) : Type 0 where
  pub past : List Step
  pub lines : List ℕ
  pub sites : List ℕ
  pub read : IfSome told (λ text. HasRead text (past ++ chunk_steps last) (lines ++ chunk_lines last) (sites ++ chunk_sites last) reader known trace)
  pub empty : trace ≡ without_steps trace
  pub stands : Stands (recorded past lines sites trace.names)

-- at the end of the text, which is a trace with these names: this stands for it
pub record HasEnded (Stands : Recording → Type 0) (told : Option (List ℕ)) (limit : ℕ) (used : NameTable) : Type 0 where
  pub recording : Recording
  pub trace : IfSome told (λ text. IsTrace text limit recording)
  pub names : used ≡ recording.names
  pub stands : Stands recording

-- this stands for what is kept of the recording for a part, which has so many steps of pages; each step has a line and a site
pub record StandsFor (part : Option PartView) (Stands : Recording → Type 0) (steps : ℕ) (r : Recording) : Type 0 where
  pub stands : Stands (kept part r)
  pub counted : HasCounted part steps (kept part r).steps
  pub long : length r.lines ≡ length r.steps
  pub one_each : length r.sites ≡ length r.steps

-- of the lines from this one on, what was handed out of touches and what is left of them say together what all say; and what is left is of the next line or of
-- lines behind it
pub record Tells (all touches : List Touch) (left : Option (List Touch)) (from next : ℕ) : Type 0 where
  pub more : List Touch
  pub known : left ≡ Some more
  pub says : (line : ℕ) → from ≤ line → touch_on (touches ++ more) line ≡ touch_on all line
  pub later : All (λ touch. next ≤ touch.line) more

-- of the lines from this one to the next one, these say what all say
abbrev pub TellsBetween : List Touch → List Touch → ℕ → ℕ → Type 0
TellsBetween all touches from next = (line : ℕ) → from ≤ line → line < next → touch_on touches line ≡ touch_on all line

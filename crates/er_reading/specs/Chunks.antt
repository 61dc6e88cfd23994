-- Chunks of steps, one behind the other.
use Rattle.std.specs.Prelude.{◌≡◌, ◌++◌, ℕ, List, [], ◌∷◌, length}
use Rattle.std.specs.List.{All}
use Rattle.er_event.specs.declared.steps.Step.{Step}
use Rattle.er_reading.specs.declared.chunks.Chunk.{Chunk}
use Rattle.er_trace.specs.Names.{NameTable}
use Rattle.er_trace.specs.Trace.{IsNamed, HasSiteName}

-- the steps of all chunks, in order
abbrev pub chunk_steps : List Chunk → List Step
chunk_steps [] = []
chunk_steps (c ∷ cs) = c.steps.items ++ chunk_steps cs

-- their lines
abbrev pub chunk_lines : List Chunk → List ℕ
chunk_lines [] = []
chunk_lines (c ∷ cs) = c.lines.items ++ chunk_lines cs

-- and their sites
abbrev pub chunk_sites : List Chunk → List ℕ
chunk_sites [] = []
chunk_sites (c ∷ cs) = c.sites.items ++ chunk_sites cs

-- the steps of each chunk
abbrev pub step_lists : List Chunk → List (List Step)
step_lists [] = []
step_lists (c ∷ cs) = c.steps.items ∷ step_lists cs

-- the chunk has no steps
pub record IsEmpty (chunk : Chunk) : Type 0 where
  pub steps : chunk.steps.items ≡ []
  pub lines : chunk.lines.items ≡ []
  pub sites : chunk.sites.items ≡ []

-- none of the chunks has steps
abbrev pub AreEmpty : List Chunk → Type 0
AreEmpty [] = Unit {0}
AreEmpty (c ∷ cs) = IsEmpty c × AreEmpty cs

-- each step has a line and a site, and its numbers have names among these
pub record IsFormed (names : NameTable) (chunk : Chunk) : Type 0 where
  pub named : All (IsNamed names) chunk.steps.items
  pub long : length chunk.lines.items ≡ length chunk.steps.items
  pub known : All (HasSiteName names) chunk.sites.items
  pub one_each : length chunk.sites.items ≡ length chunk.steps.items

-- the same of all chunks
abbrev pub AreFormed : NameTable → List Chunk → Type 0
AreFormed names [] = Unit {0}
AreFormed names (c ∷ cs) = IsFormed names c × AreFormed names cs

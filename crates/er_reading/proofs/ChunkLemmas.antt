-- Steps that go into chunks: behind the others they are what was read.
use Rattle.std.proofs.Common.{◌≡◌, ◌++◌, ℕ, List, [], ◌∷◌, append-nil, append_assoc, length, Option, Result, Ok, Err, OnOk, refl, sym, ap, ◌∙◌, arith}
use Rattle.std.proofs.lemmas.List.Elements.{All-nil}
use Rattle.er_event.specs.declared.steps.Step.{Step}
use Rattle.er_reading.specs.Chunks.{AreEmpty, AreFormed, IsEmpty, IsFormed, chunk_lines, chunk_sites, chunk_steps}
use Rattle.er_reading.specs.declared.chunks.Chunk.{Chunk}
use Rattle.er_text.proofs.BatchLaws.{forgotten}
use Rattle.er_text.specs.Batches.{GivesBatch, HasRead}
use Rattle.er_text.specs.declared.reading.Batch.{Batch}
use Rattle.er_text.specs.declared.reading.Batch.TheVariants.{More, End}
use Rattle.er_text.specs.Places.{Reached}
use Rattle.er_trace.specs.Names.{NameTable}
use Rattle.er_trace.specs.Trace.{HasSiteName, IsNamed, Recording, with_steps, without_steps}

-- a chunk without steps
pub empty_formed : (names : NameTable) (c : Chunk) → IsEmpty c → IsFormed names c
empty_formed names c empty = record {
  named = rw empty.steps (All-nil (IsNamed names));
  long = ap length empty.lines ∙ sym (ap length empty.steps);
  known = rw empty.sites (All-nil (HasSiteName names));
  one_each = ap length empty.sites ∙ sym (ap length empty.steps);
}

pub none_formed : (names : NameTable) (cs : List Chunk) → AreEmpty cs → AreFormed names cs
none_formed names [] empty = tt
none_formed names (c ∷ cs) empty = (empty_formed names c empty.0, none_formed names cs empty.1)

pub if_none : {X E : Type 0} (names : NameTable) (cs : List Chunk) (result : Result X E) → AreEmpty cs → OnOk result (AreFormed names cs)
if_none names cs (Ok x) empty = none_formed names cs empty
if_none names cs (Err e) empty = tt

none_steps : (cs : List Chunk) → AreEmpty cs → chunk_steps cs ≡ []
none_steps [] empty = refl
none_steps (c ∷ cs) empty = ap (λ (xs : List Step). xs ++ chunk_steps cs) empty.0.steps ∙ none_steps cs empty.1

none_lines : (cs : List Chunk) → AreEmpty cs → chunk_lines cs ≡ []
none_lines [] empty = refl
none_lines (c ∷ cs) empty = ap (λ (xs : List ℕ). xs ++ chunk_lines cs) empty.0.lines ∙ none_lines cs empty.1

none_sites : (cs : List Chunk) → AreEmpty cs → chunk_sites cs ≡ []
none_sites [] empty = refl
none_sites (c ∷ cs) empty = ap (λ (xs : List ℕ). xs ++ chunk_sites cs) empty.0.sites ∙ none_sites cs empty.1

-- what holds of some steps holds of them behind which no chunk has any
pub with_none : (P : List Step → List ℕ → List ℕ → Type 0) (steps : List Step) (lines sites : List ℕ) (cs : List Chunk) → AreEmpty cs → P steps lines sites
    → P (steps ++ chunk_steps cs) (lines ++ chunk_lines cs) (sites ++ chunk_sites cs)
with_none P steps lines sites cs empty holds =
    rw (none_steps cs empty, none_lines cs empty, none_sites cs empty, append-nil steps, append-nil lines, append-nil sites) holds

-- what holds of steps, those of a chunk, and those of others behind it
pub with_first : (P : List Step → List ℕ → List ℕ → Type 0) (steps : List Step) (lines sites : List ℕ) (c : Chunk) (cs : List Chunk)
    → P ((steps ++ c.steps.items) ++ chunk_steps cs) ((lines ++ c.lines.items) ++ chunk_lines cs) ((sites ++ c.sites.items) ++ chunk_sites cs)
    → P (steps ++ chunk_steps (c ∷ cs)) (lines ++ chunk_lines (c ∷ cs)) (sites ++ chunk_sites (c ∷ cs))
with_first P steps lines sites c cs holds =
    rw (append_assoc steps c.steps.items (chunk_steps cs), append_assoc lines c.lines.items (chunk_lines cs), append_assoc sites c.sites.items (chunk_sites cs)) at holds

-- a trace that gave its steps to a chunk without any
module _ (t u : Recording) (old new : Chunk) (empty : IsEmpty old) (given : u ≡ with_steps (without_steps t) old.steps.items old.lines.items old.sites.items)
    (steps : new.steps.items ≡ t.steps) (lines : new.lines.items ≡ t.lines) (sites : new.sites.items ≡ t.sites) where
  given_all : u ≡ without_steps t
  given_all = rw (empty.steps, empty.lines, empty.sites) at given

  pub same_names : u.names ≡ t.names
  same_names = ap (λ (r : Recording). r.names) given_all

  pub read_moved : (text : List ℕ) (past : List Step) (before around : List ℕ) (reader : Reached) (known : Option (List ℕ)) (names : NameTable)
      → HasRead text past before around reader known (record t { names = names })
      → HasRead text (past ++ new.steps.items) (before ++ new.lines.items) (around ++ new.sites.items) reader known (record u { names = names })
  read_moved text past before around reader known names read =
      rw (given_all, steps, lines, sites) (forgotten text past before around reader known (record t { names = names }) read)

-- the steps of chunks of which one more is the last
last_steps : (cs : List Chunk) (c : Chunk) → chunk_steps (cs ++ c ∷ []) ≡ chunk_steps cs ++ c.steps.items
last_steps [] c = append-nil c.steps.items
last_steps (d ∷ ds) c = ap (λ (xs : List Step). d.steps.items ++ xs) (last_steps ds c) ∙ sym (append_assoc d.steps.items (chunk_steps ds) c.steps.items)

last_lines : (cs : List Chunk) (c : Chunk) → chunk_lines (cs ++ c ∷ []) ≡ chunk_lines cs ++ c.lines.items
last_lines [] c = append-nil c.lines.items
last_lines (d ∷ ds) c = ap (λ (xs : List ℕ). d.lines.items ++ xs) (last_lines ds c) ∙ sym (append_assoc d.lines.items (chunk_lines ds) c.lines.items)

last_sites : (cs : List Chunk) (c : Chunk) → chunk_sites (cs ++ c ∷ []) ≡ chunk_sites cs ++ c.sites.items
last_sites [] c = append-nil c.sites.items
last_sites (d ∷ ds) c = ap (λ (xs : List ℕ). d.sites.items ++ xs) (last_sites ds c) ∙ sym (append_assoc d.sites.items (chunk_sites ds) c.sites.items)

pub last_formed : (names : NameTable) (cs : List Chunk) (c : Chunk) → AreFormed names cs → IsFormed names c → AreFormed names (cs ++ c ∷ [])
last_formed names [] c formed one = (one, tt)
last_formed names (d ∷ ds) c formed one = (formed.0, last_formed names ds c formed.1 one)

-- what a batch gives, once the steps of its trace are in the last chunk
pub gives_moved : (text : List ℕ) (steps : List Step) (lines sites : List ℕ) (reader : Reached) (known : Option (List ℕ)) (t u : Recording) (batch : Batch) (cs : List Chunk) (c : Chunk) → u ≡ without_steps t
    → c.steps.items ≡ t.steps → c.lines.items ≡ t.lines → c.sites.items ≡ t.sites
    → GivesBatch text (steps ++ chunk_steps cs) (lines ++ chunk_lines cs) (sites ++ chunk_sites cs) reader known t (Ok batch)
    → GivesBatch text (steps ++ chunk_steps (cs ++ c ∷ [])) (lines ++ chunk_lines (cs ++ c ∷ [])) (sites ++ chunk_sites (cs ++ c ∷ [])) reader known u (Ok batch)
gives_moved text steps lines sites reader known t u More cs c moved own its seen gives =
    rw (
      moved,
      last_steps cs c,
      last_lines cs c,
      last_sites cs c,
      own,
      its,
      seen,
      sym (append_assoc steps (chunk_steps cs) t.steps),
      sym (append_assoc lines (chunk_lines cs) t.lines),
      sym (append_assoc sites (chunk_sites cs) t.sites),
    )
    (forgotten text (steps ++ chunk_steps cs) (lines ++ chunk_lines cs) (sites ++ chunk_sites cs) reader known t gives)
gives_moved text steps lines sites reader known t u End cs c moved own its seen gives =
    rw (
      moved,
      last_steps cs c,
      last_lines cs c,
      last_sites cs c,
      own,
      its,
      seen,
      sym (append_assoc steps (chunk_steps cs) t.steps),
      sym (append_assoc lines (chunk_lines cs) t.lines),
      sym (append_assoc sites (chunk_sites cs) t.sites),
      append-nil ((steps ++ chunk_steps cs) ++ t.steps),
      append-nil ((lines ++ chunk_lines cs) ++ t.lines),
      append-nil ((sites ++ chunk_sites cs) ++ t.sites),
    )
    gives

pub none_left : (cs : List Chunk) → length cs ≡ 0 → cs ≡ []
none_left [] none = refl
none_left (c ∷ cs) none = absurd (omega (arith, none))

-- What is known of a word: the accesses since its era began, each with its bytes, or that a race was reported.
use Rattle.std.specs.Prelude.{ℕ, ◌≡◌, true, List, ◌++◌, map, is_some, Option, Some, None}
use Rattle.std.specs.Bool.{MatchBool}
use Rattle.std.specs.Option.{option_map, option_to_list}
use Rattle.er_event.specs.declared.steps.Kind.{Kind}
use Rattle.er_event.specs.declared.steps.Kind.TheVariants.{Read as reading, Write as writing}
use Rattle.er_model.specs.Words.{is_writing}
use Rattle.er_order.specs.ByBytes.{whole}
use Rattle.er_order.specs.Parts.{Part, Query, first_hit, IsPartNoted}
use Rattle.er_order.specs.declared.bytes.Bytes.{Bytes}
use Rattle.er_epochs.specs.declared.reads.Tagged.{Tagged}
use Rattle.er_epochs.specs.declared.byte_accesses.ByteAccess.{ByteAccess}
use Rattle.er_epochs.specs.Epochs.{Latest, Stored, Accesses, Told, pair_of}

-- an access, as later ones see it
abbrev pub part_of : {A : Type 0} → ByteAccess A → Part
part_of one = record { epoch = pair_of one.access; is_write = is_writing one.kind; bytes = one.bytes }

-- the accesses, the last one first; or that a race was reported
pub data Known (A : Type 0) : Type 0 where
  Since : (accesses : List (ByteAccess A)) → Known A
  Raced : Known A

-- what an access of this kind and these bytes asks for
abbrev pub query_of : Kind → Bytes → Query
query_of kind bytes = record { is_write = is_writing kind; bytes = Some bytes }

-- a reuse asks as a write of all bytes does
abbrev pub reuse_query : Query
reuse_query = record { is_write = true; bytes = None }

-- the tag of the last access that conflicts with what is asked for and that the clock doesn't cover
abbrev pub finds : {A : Type 0} → (ℕ → ℕ) → Known A → Query → Option A
finds clock Raced query = None
finds clock (Since accesses) query = option_map (λ one. one.access.tag) (first_hit part_of clock query accesses)

-- what may be known after this access by the thread whose clock this is
abbrev pub IsKnownBy : {A : Type 0} → (ℕ → ℕ) → Known A → ByteAccess A → Known A → Type 0
IsKnownBy clock Raced one after = after ≡ Raced
IsKnownBy {A} clock (Since accesses) one after = MatchBool (is_some (first_hit part_of clock (query_of one.kind one.bytes) accesses)) (after ≡ Raced) ((noted : List (ByteAccess A)) × (after ≡ Since noted) × IsPartNoted part_of clock accesses one noted)

-- an access of a whole word
abbrev pub whole_access : {A : Type 0} → Kind → Tagged A → ByteAccess A
whole_access kind access = record { access = access; kind = kind; bytes = whole }

-- the last write and the reads since, as accesses of the whole word
abbrev pub accesses_of : {A : Type 0} → Latest A → List (ByteAccess A)
accesses_of latest = map (whole_access reading) latest.reads ++ map (whole_access writing) (option_to_list latest.write)

-- what is known by what is stored, if all accesses touch the whole word
abbrev pub known_of : {A : Type 0} → Stored A → Known A
known_of Told = Raced
known_of (Accesses latest) = Since (accesses_of latest)

-- The accesses that are kept of a word, and what one more makes of them.
use Rattle.std.specs.Prelude.{ℕ, ◌≡◌, ◌+◌, ◌^◌, nat_lt, nat_le, nat_eq, Bool, false, ◌&&◌, ◌||◌, cond, List, [], ◌∷◌, ◌++◌, filter, Option, Some, None}
use Rattle.std.specs.List.{find, list_any}
use Rattle.std.specs.Option.{option_map, option_to_list}
use Rattle.er_event.specs.declared.steps.Kind.{Kind}
use Rattle.er_event.specs.declared.steps.Kind.TheVariants.{Read as reading, Write as writing}
use Rattle.er_model.specs.Words.{is_writing}
use Rattle.er_order.specs.Clocks.{Epoch}
use Rattle.er_order.specs.Following.{is_unordered}
use Rattle.er_order.specs.Keeping.{IsNoted}
use Rattle.er_epochs.specs.declared.reads.Tagged.{Tagged}

-- of a word's era, the last write and reads since, the last one first
pub record Latest (A : Type 0) : Type 0 where
  pub write : Option (Tagged A)
  pub reads : List (Tagged A)

-- what is stored of a word: these, or that a race was reported
pub data Stored (A : Type 0) : Type 0 where
  Accesses : (latest : Latest A) → Stored A
  Told : Stored A

-- an access of thread t at this count, with its tag
abbrev pub tagged : {A : Type 0} → ℕ → ℕ → A → Tagged A
tagged t n a = record { epoch = record { thread = t; count = n }; tag = a }

-- the epoch of an access: its thread and that thread's count
abbrev pub pair_of : {A : Type 0} → Tagged A → Epoch
pair_of access = (access.epoch.thread, access.epoch.count)

-- the access that a word has by a thread's number, a count and a tag; no thread has a number from 2^30 on, so that says that there is none
abbrev pub access_in : {A : Type 0} → ℕ → ℕ → A → Option (Tagged A)
access_in number count tag = cond (nat_lt number (2 ^ 30)) (Some (tagged number count tag)) None

-- a word's reads: one or none, or those of a list beside it
pub data Readers (A : Type 0) : Type 0 where
  Alone : (read : Option (Tagged A)) → Readers A
  Listed : Readers A

-- the reads that a word has by a thread's number, a count and a tag; one number says that the reads are in a list
abbrev pub readers_in : {A : Type 0} → ℕ → ℕ → A → Readers A
readers_in number count tag = cond (nat_eq number (2 ^ 30 + 1)) Listed (Alone (access_in number count tag))

-- the reads, with this list beside the word
abbrev pub reads_beside : {A : Type 0} → Readers A → List (Tagged A) → List (Tagged A)
reads_beside (Alone read) listed = option_to_list read
reads_beside Listed listed = listed

-- the clock doesn't cover the access
abbrev pub is_apart : {A : Type 0} → (ℕ → ℕ) → Tagged A → Bool
is_apart clock access = is_unordered clock (pair_of access)

-- there is an access, and the clock doesn't cover it
abbrev pub some_apart : {A : Type 0} → (ℕ → ℕ) → Option (Tagged A) → Bool
some_apart clock None = false
some_apart clock (Some access) = is_apart clock access

-- an access of this kind, by a thread whose clock this is, is reported: the clock does not cover an access that it conflicts with
abbrev pub is_raced : {A : Type 0} → (ℕ → ℕ) → Stored A → Kind → Bool
is_raced clock Told kind = false
is_raced clock (Accesses latest) kind = some_apart clock latest.write || (is_writing kind && list_any (is_apart clock) latest.reads)

-- the latest accesses after one more: a read takes the place of the reads that the clock covers, a write that of all
abbrev pub latest_by : {A : Type 0} → (ℕ → ℕ) → Latest A → Tagged A → Kind → Latest A
latest_by clock before access reading = record { write = before.write; reads = access ∷ filter (is_apart clock) before.reads }
latest_by clock before access writing = record { write = Some access; reads = [] }

-- what is stored after this access by the thread whose clock this is
abbrev pub stored_by : {A : Type 0} → (ℕ → ℕ) → Stored A → Tagged A → Kind → Stored A
stored_by clock Told access kind = Told
stored_by clock (Accesses latest) access kind = cond (is_raced clock (Accesses latest) kind) Told (Accesses (latest_by clock latest access kind))

-- the reads that are stored
abbrev pub reads_of : {A : Type 0} → Stored A → List (Tagged A)
reads_of Told = []
reads_of (Accesses latest) = latest.reads

-- what is stored, with these reads in the place of its own
abbrev pub with_reads : {A : Type 0} → Stored A → List (Tagged A) → Stored A
with_reads Told reads = Told
with_reads (Accesses latest) reads = Accesses (record { write = latest.write; reads = reads })

-- what may be stored after an access: of reads any that serve as well as all of them
abbrev pub IsStoredBy : {A : Type 0} → (ℕ → ℕ) → Stored A → Tagged A → Kind → Stored A → Type 0
IsStoredBy {A} clock before access reading after = (noted : List (Tagged A)) × (after ≡ with_reads (stored_by clock before access reading) noted) × IsNoted pair_of clock (reads_of before) access noted
IsStoredBy clock before access writing after = after ≡ stored_by clock before access writing

-- the accesses that one of this kind conflicts with, the last one first
abbrev pub rivals_of : {A : Type 0} → Latest A → Kind → List (Tagged A)
rivals_of latest kind = cond (is_writing kind) latest.reads [] ++ option_to_list latest.write

-- the tag of the first one that the clock doesn't cover
abbrev pub tag_of_first : {A : Type 0} → (ℕ → ℕ) → List (Tagged A) → Option A
tag_of_first clock accesses = option_map (λ access. access.tag) (find (is_apart clock) accesses)

-- the tag of the last access that one of this kind conflicts with and that the clock doesn't cover
abbrev pub tag_found : {A : Type 0} → (ℕ → ℕ) → Stored A → Kind → Option A
tag_found clock Told kind = None
tag_found clock (Accesses latest) kind = tag_of_first clock (rivals_of latest kind)

-- the newest access of a thread, if it has one, is no older than one of this count
abbrev pub is_replaced : Option ℕ → ℕ → Bool
is_replaced None count = false
is_replaced (Some newest) count = nat_le count newest

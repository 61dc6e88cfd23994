-- Numbers that the names of a reader have in a trace, and the turn in which they were found.
use Rattle.std.specs.Prelude.{◌≡◌, ℕ, ◌+◌, ◌<◌, ◌^◌, Bool, true, List}
use Rattle.std.specs.List.{All}
use Rattle.er_lines.specs.Lines.{has_bytes}
use Rattle.er_lines.specs.declared.ready.NameKind.{NameKind}
use Rattle.er_lines.specs.declared.ready.NameKind.TheVariants as kind
use Rattle.er_trace.specs.Names.{NameTable, is_known, number_of}
use Rattle.er_trace.specs.Trace.{Recording, with_lock_name, with_site_name, with_thread_name}
use Rattle.er_text.specs.declared.numbers.KnownNumbers.{KnownNumbers}
use Rattle.er_text.specs.declared.numbers.Slot.{Slot}

-- the number of a name of this kind. Sites are numbered from 1
abbrev pub number_as : NameKind → NameTable → List ℕ → ℕ
number_as kind.Thread table name = number_of table.threads name
number_as kind.Lock table name = number_of table.locks name
number_as kind.Site table name = number_of table.sites name + 1

abbrev pub is_known_as : NameKind → NameTable → List ℕ → Bool
is_known_as kind.Thread table name = is_known table.threads name
is_known_as kind.Lock table name = is_known table.locks name
is_known_as kind.Site table name = is_known table.sites name

-- the recording once the name has appeared
abbrev pub with_name_of : NameKind → Recording → List ℕ → Recording
with_name_of kind.Thread = with_thread_name
with_name_of kind.Lock = with_lock_name
with_name_of kind.Site = with_site_name

-- the name of the reader's number is known, and has this number in the trace
pub record IsNumber (names : NameKind → ℕ → List ℕ) (table : NameTable) (k : NameKind) (n number : ℕ) : Type 0 where
  pub some : has_bytes (names k n) ≡ true
  pub known : is_known_as k table (names k n) ≡ true
  pub is : number ≡ number_as k table (names k n)
  pub small : k ≡ kind.Thread → number < 2 ^ 30

-- so it is in each slot of this turn
abbrev pub AreRight : (NameKind → ℕ → List ℕ) → NameTable → KnownNumbers → Type 0
AreRight names table known = All (λ (slot : Slot). slot.turn ≡ known.turn → IsNumber names table slot.kind slot.name slot.number) known.slots.items

-- Words of an access that are still to come, and lines that are taken without their text.
use Rattle.std.specs.Prelude.{◌≡◌, Bool, ℕ, ◌+◌, ◌-◌, ◌/◌, ◌<◌, true, List, Option, Some, None, length, slice_set, codes, if◌then◌else◌}
use Rattle.std.specs.List.{list_all}
use Rattle.er_lines.specs.Naming.{is_name, is_lock_name}
use Rattle.er_lines.specs.Ready.{is_maybe_site, name_by, name_word}
use Rattle.er_lines.specs.declared.ready.ReadyVerb.{ReadyVerb}
use Rattle.er_lines.specs.declared.ready.ReadyVerb.TheVariants as does
use Rattle.er_binary.specs.Numbers.{name_at, plus}
use Rattle.er_binary.specs.States.{address_of, is_place, node_of, slot}
use Rattle.er_binary.specs.Texts.{access_lines, site}
use Rattle.er_binary.specs.declared.records.Access.{Access}
use Rattle.er_binary.specs.declared.records.Kind.{Kind}
use Rattle.er_binary.specs.declared.records.Kind.TheVariants as kind
use Rattle.er_binary.specs.declared.state.State.{State}
use Rattle.er_binary.specs.declared.state.Words.{Words}

-- the words of an access
abbrev pub words_at : State → Access → Words
words_at s a = record { writes = a.writes; node = node_of s a; at = address_of s a; end = (address_of s a + a.size - 1) / 4 + 1 }

-- a line for each of them
abbrev pub words_text : State → Words → List ℕ
words_text s w = access_lines s (if w.writes then codes "write" else codes "read") w.node (w.at / 4) (w.end - w.at / 4)

-- behind the access of these words
abbrev pub passed : State → Words → State
passed s w = record s { node = w.node; last = slice_set s.last (slot s) w.at; events = plus s.events 1 }

-- behind a lock event
abbrev pub counted : State → State
counted s = record s { events = plus s.events 1 }

-- all names that are known are names of their kind, and the thread's is known
abbrev pub AreNamed : State → Type 0
AreNamed s = (list_all is_name s.threads ≡ true) × (list_all is_lock_name s.locks ≡ true) × (list_all is_place s.places ≡ true) × ((n : ℕ) → s.thread ≡ Some n → n < length s.threads)

-- the record of a lock event by its verb
abbrev pub kind_for : ReadyVerb → Option Kind
kind_for does.Read = None
kind_for does.Write = None
kind_for does.Lock = Some kind.Lock
kind_for does.Unlock = Some kind.Unlock
kind_for does.ReadLock = Some kind.ReadLock
kind_for does.ReadUnlock = Some kind.ReadUnlock

-- the verb of an access that writes, or reads
abbrev pub verb_for : Bool → ReadyVerb
verb_for writes = if writes then does.Write else does.Read

-- the site of a node by the number of its name
abbrev pub IsSite : State → ℕ → Option ℕ → Type 0
IsSite s node name = (site s node ≡ name_word (name_by (name_at s.places) name)) × (is_maybe_site (name_by (name_at s.places) name) ≡ true)

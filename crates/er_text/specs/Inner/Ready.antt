-- What a line says that was never made as text. No public clause cites this module.
use Rattle.std.specs.Prelude.{ℕ, zero, suc, ◌+◌, ◌/◌, Bool, true, false, List, Option, Some, None, if◌then◌else◌}
use Rattle.er_event.specs.declared.steps.Event.{Event}
use Rattle.er_event.specs.declared.steps.Event.TheVariants as event
use Rattle.er_event.specs.declared.steps.Kind.{Kind}
use Rattle.er_event.specs.declared.steps.Kind.TheVariants as kind
use Rattle.er_event.specs.declared.steps.Mode.TheVariants as mode
use Rattle.er_lines.specs.Lines.{has_bytes}
use Rattle.er_lines.specs.declared.ready.ReadyVerb.{ReadyVerb}
use Rattle.er_lines.specs.declared.ready.ReadyVerb.TheVariants as does
use Rattle.er_trace.specs.Trace.{Recording, with_step}
use Rattle.er_text.specs.Events.{Operation, Acquires, Releases, Accesses, EventLine, with_line}

-- the site of this name, if it has bytes
abbrev pub site_if : List ℕ → Option (List ℕ)
site_if name = if has_bytes name then Some name else None

-- what the thread does: the address is an access's, the name a site's or a lock's
abbrev pub ready_operation : ReadyVerb → ℕ → List ℕ → Operation
ready_operation does.Read address name = Accesses kind.Read (address / 4) (site_if name)
ready_operation does.Write address name = Accesses kind.Write (address / 4) (site_if name)
ready_operation does.Lock address name = Acquires name mode.Write
ready_operation does.Unlock address name = Releases name mode.Write
ready_operation does.ReadLock address name = Acquires name mode.Read
ready_operation does.ReadUnlock address name = Releases name mode.Read

-- the line's thread does it
abbrev pub ready_event : ReadyVerb → ℕ → List ℕ → List ℕ → EventLine
ready_event v address thread name = record { thread = thread; operation = ready_operation v address name }

-- a recording with the lines of so many words, each of the word behind that of the line before
abbrev pub with_lines : ℕ → ReadyVerb → ℕ → List ℕ → List ℕ → ℕ → Recording → Recording
with_lines line v address thread name zero r = r
with_lines line v address thread name (suc n) r = with_lines (line + 1) v (address + 4) thread name n (with_line line (ready_event v address thread name) r)

-- and with accesses of so many words, by the numbers of their thread and their site
abbrev pub with_accesses : ℕ → Kind → ℕ → ℕ → ℕ → ℕ → Recording → Recording
with_accesses thread k word site line zero r = r
with_accesses thread k word site line (suc n) r = with_accesses thread k (word + 1) site (line + 1) n (with_step r (record { thread = thread; event = event.Access k word site }) line site)

-- whether a verb is of an access
abbrev pub is_access : ReadyVerb → Bool
is_access does.Read = true
is_access does.Write = true
is_access v = false

abbrev pub access_kind : ReadyVerb → Kind
access_kind does.Write = kind.Write
access_kind v = kind.Read

-- what another verb does to a lock
abbrev pub hold_event : ReadyVerb → ℕ → Event
hold_event does.Unlock lock = event.Release lock mode.Write
hold_event does.ReadLock lock = event.Acquire lock mode.Read
hold_event does.ReadUnlock lock = event.Release lock mode.Read
hold_event v lock = event.Acquire lock mode.Write

-- What a call stands for as an entry of its thread. No public clause cites this file.
use Rattle.std.specs.Prelude.{ℕ, Option, Some, None}
use Rattle.er_event.specs.declared.steps.Event.{Event}
use Rattle.er_event.specs.declared.steps.Event.TheVariants as event
use Rattle.er_event.specs.declared.steps.Kind.TheVariants.{Read}
use Rattle.er_journal.specs.Entries.{Call, Entry, LocksHeld, What, Access, Reset}

-- what a thread with these locks did; only accesses and reuses are entered
abbrev pub what_of : Event → LocksHeld → What
what_of (event.Reuse range) locks = Reset range
what_of (event.Access kind word site) locks = Access (record { thread = locks.thread; word = word; kind = kind; site = site; held = locks.held; write_held = locks.write_held })
what_of _ locks = Access (record { thread = locks.thread; word = 0; kind = Read; site = 0; held = locks.held; write_held = locks.write_held })

-- the number of a call that drew one
abbrev pub number_of : Option ℕ → ℕ
number_of (Some number) = number
number_of None = 0

-- the entry in full
abbrev pub entry_of : Call → LocksHeld → Entry
entry_of call locks = record { ticket = number_of call.ticket; what = what_of call.event locks; thread = locks.thread; reply = call.reply }

-- an access or a reuse drew a number
abbrev pub IsEntered : Event → Option ℕ → Type 0
IsEntered (event.Access kind word site) (Some number) = Unit {0}
IsEntered (event.Reuse range) (Some number) = Unit {0}
IsEntered _ _ = ⊥

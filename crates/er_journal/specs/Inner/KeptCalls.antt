-- What a call in 16 bytes stands for. No public clause cites this file.
use Rattle.std.specs.Prelude.{ℕ, ◌≡◌, ◌+◌, ◌*◌, ◌/◌, ◌%◌, Some, None}
use Rattle.er_event.specs.Span.{part_of}
use Rattle.er_event.specs.declared.addresses.PageRange.{PageRange}
use Rattle.er_event.specs.declared.steps.Event.{Event}
use Rattle.er_event.specs.declared.steps.Event.TheVariants as event
use Rattle.er_event.specs.declared.steps.Reply.TheVariants.{Done}
use Rattle.er_journal.specs.Entries.{Call}
use Rattle.er_journal.specs.declared.calls.KeptCall.{KeptCall}
use Rattle.er_journal.specs.declared.calls.KeptCall.TheVariants as kept
use Rattle.er_journal.specs.declared.calls.OwnEvent.{OwnEvent}
use Rattle.er_journal.specs.declared.calls.OwnEvent.TheVariants as own

-- the event in full
abbrev pub own_event : OwnEvent → Event
own_event (own.Acquire lock mode) = event.Acquire lock mode
own_event (own.Release lock mode) = event.Release lock mode
own_event own.IgnoreOn = event.IgnoreOn
own_event own.IgnoreOff = event.IgnoreOff
own_event (own.Level level) = event.Level level
own_event (own.Sync sync) = event.Sync sync

-- the words of one page that are so many behind the first one, and that one
abbrev pub run_of : ℕ → ℕ → PageRange
run_of lo more = part_of (record { first = lo; last = lo + more }) 0

-- the number of a reuse, 1,024 times its first word and how many it has behind that one, from its parts of 8, 16 and 32 bits
abbrev pub reuse_number : ℕ → ℕ → ℕ → ℕ
reuse_number high middle low = high * 281474976710656 + (middle * 4294967296 + low)

-- the call in full
abbrev pub call_of : KeptCall → Call
call_of (kept.Own reply own) = record { event = own_event own; reply = reply; ticket = None }
call_of (kept.OwnAccess reply kind site word) = record { event = event.Access kind word site; reply = reply; ticket = None }
call_of (kept.OwnReuse reply more lo) = record { event = event.Reuse (run_of lo more); reply = reply; ticket = None }
call_of (kept.OwnShow reply word) = record { event = event.Show word; reply = reply; ticket = None }
call_of (kept.Counted reply access site ticket) = record { event = event.Access access.kind access.word site; reply = reply; ticket = Some ticket }
call_of (kept.Late reply access late) = record { event = event.Access access.kind access.word late.value.site; reply = reply; ticket = Some late.value.number }
call_of (kept.Reset high middle low ticket) = record { event = event.Reuse (run_of (reuse_number high middle low / 1024) (reuse_number high middle low % 1024)); reply = Done; ticket = Some ticket }

-- the words of a reuse lie on one page
abbrev pub IsKept : KeptCall → Type 0
IsKept (kept.OwnReuse reply more lo) = lo / 1024 ≡ (lo + more) / 1024
IsKept (kept.Reset high middle low ticket) = reuse_number high middle low / 1024 / 1024 ≡ (reuse_number high middle low / 1024 + reuse_number high middle low % 1024) / 1024
IsKept _ = Unit {0}

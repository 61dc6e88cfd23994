-- Which faults a workload can have.
use Rattle.std.specs.Prelude.{Bool, true, false, IsTrue}
use Rattle.er_event.specs.declared.refusals.Refusal.{Refusal}
use Rattle.er_event.specs.declared.refusals.Refusal.TheVariants.{JournalFull, TableFull, OutOfMemory, ForeignSeat as ForeignCall, TooManyThreads}
use Rattle.er_load.specs.declared.workloads.LoadFault.{LoadFault}
use Rattle.er_load.specs.declared.workloads.LoadFault.TheVariants.{Refused, WorkerNotStarted, WorkerLost, Unsettled}
use Rattle.er_settle.specs.declared.unsettled.Unsettled.TheVariants.{ForeignSeat, SeatTwice}

-- a refusal that no definition gives: there was no room, or the detector doesn't know the seat or the shard, or has no seat left
abbrev pub may_meet : Refusal → Bool
may_meet JournalFull = true
may_meet TableFull = true
may_meet OutOfMemory = true
may_meet ForeignCall = true
may_meet TooManyThreads = true
may_meet _ = false

-- a call is refused where there was no room or where the detector doesn't know the seat or has none left, but by none of the
-- definitions; each worker gives its seat back, and each seat is the detector's and has a number of its own
abbrev pub MayFail : LoadFault → Type 0
MayFail WorkerLost = ⊥
MayFail (Unsettled ForeignSeat) = ⊥
MayFail (Unsettled SeatTwice) = ⊥
MayFail (Unsettled fault) = Unit {0}
MayFail (Refused why) = IsTrue (may_meet why)
MayFail WorkerNotStarted = Unit {0}

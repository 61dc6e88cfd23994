use Rattle.std.proofs.Common.{take}
use Rattle.er_settle.specs.Inner.EntryMatches.{AllGiven, AreGrouped}
use Rattle.er_settle.proofs.entry_matches.group_by_thread.Given as goal

abbrev pub invariant-loop-placed : goal.invariant-loop-placed
invariant-loop-placed l = record { dealt : AreGrouped l.seats (take l.placed-index l.order) l.groups.items; given : AllGiven l.seats (take l.placed-index l.order) }

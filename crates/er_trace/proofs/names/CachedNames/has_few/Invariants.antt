use Rattle.std.proofs.Common.{◌≡◌, take}
use Rattle.er_trace.specs.Appended.{with_names}
use Rattle.er_trace.proofs.names.CachedNames.has_few.Given as goal

-- the names so far add nothing
abbrev pub invariant-loop-at : goal.invariant-loop-at
invariant-loop-at l = l.self ≡ with_names l.self (take l.at l.others)

use Rattle.std.proofs.Common.{◌≡◌, take}
use Rattle.er_trace.proofs.names.CachedNames.are_first_of.Given as goal

-- so many names are the same
abbrev pub invariant-loop-at : goal.invariant-loop-at
invariant-loop-at l = take l.at l.self ≡ take l.at l.others

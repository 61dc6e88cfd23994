use Rattle.std.proofs.Common.{◌≡◌, [], take}
use Rattle.er_trace.specs.Appended.{AreFirst, with_names}
use Rattle.er_trace.proofs.names.CachedNames.add_rest.Given as goal

-- the names so far are the first of the others
abbrev pub invariant-loop-at : goal.invariant-loop-at
invariant-loop-at l = AreFirst l.others l.fn.self → l.self ≡ with_names [] (take l.at l.others)

use Rattle.std.proofs.Common.{◌≡◌, take, map}
use Rattle.er_trace.specs.Appended.{with_names}
use Rattle.er_trace.specs.Names.{number_of}
use Rattle.er_trace.proofs.names.CachedNames.add.Given as goal

-- the names so far have appeared, and their numbers were noted
abbrev pub invariant-loop-at : goal.invariant-loop-at
invariant-loop-at l = record {
  names : l.self ≡ with_names l.fn.self (take l.at l.others);
  numbers : l.numbers ≡ map (number_of l.self) (take l.at l.others);
}

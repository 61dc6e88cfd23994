use Rattle.std.proofs.Common.{◌≡◌, ◌≤◌, length, take, None}
use Rattle.er_rules.specs.Inner.Index.{first_of}
use Rattle.er_rules.proofs.index.WordIndex.count_past.Given as goal

abbrev pub invariant-loop-width : goal.invariant-loop-width
invariant-loop-width l = record {
  within : l.past ≤ length l.self.entries.items;
  none : first_of (take l.past l.self.entries.items) l.lo l.hi ≡ None;
}

abbrev pub decreases-loop-width : goal.decreases-loop-width
decreases-loop-width l = l.width

use Rattle.std.proofs.Common.{◌≡◌, ◌≤◌, ◌-◌, length, take, None}
use Rattle.er_rules.specs.Inner.Index.{first_of}
use Rattle.er_rules.proofs.index.WordIndex.rule_of.Given as goal

abbrev pub invariant-loop-past : goal.invariant-loop-past
invariant-loop-past l = record {
  within : l.past ≤ length l.self.entries.items;
  none : first_of (take l.past l.self.entries.items) l.lo l.hi ≡ None;
}

abbrev pub decreases-loop-past : goal.decreases-loop-past
decreases-loop-past l = length l.self.entries.items - l.past

use Rattle.std.proofs.Common.{◌≤◌, ◌-◌, ◌^◌}
use Rattle.er_held.specs.Inner.Halving.{IsWithin}
use Rattle.er_held.proofs.holding.place_of.Given as goal

-- seven halves of 128 locks leave one
abbrev pub invariant-loop : goal.invariant-loop
invariant-loop l = IsWithin l.locks l.lock l.base l.size × (l.size ≤ 2 ^ (7 - l.counter))

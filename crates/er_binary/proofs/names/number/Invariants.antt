-- The number of the bytes from the place reached on.
use Rattle.std.proofs.Common.{◌≡◌, ◌<◌, ◌≤◌, ◌^◌, ◌-◌, length, drop}
use Rattle.er_binary.specs.Numbers.{number}
use Rattle.er_binary.proofs.names.number.Given as goal

abbrev pub invariant-loop-at : goal.invariant-loop-at
invariant-loop-at l = record {
  within : l.at ≤ length l.bytes;
  value : l.value ≡ number (drop l.at l.bytes);
  bound : l.value < 256 ^ (length l.bytes - l.at);
}

abbrev pub decreases-loop-at : goal.decreases-loop-at
decreases-loop-at l = l.at

use Rattle.std.proofs.Common.{◌≡◌, ◌≤◌, ◌-◌, ℕ, drop, length}
use Rattle.er_batch.specs.Touching.{touch_on}
use Rattle.er_unordered.proofs.touching.place_of.Given as goal

-- what was passed is of lines before this one
abbrev pub invariant-loop-place : goal.invariant-loop-place
invariant-loop-place l = record {
  later : (later : ℕ) → l.line ≤ later → touch_on (drop l.place l.touches) later ≡ touch_on l.touches later;
}

abbrev pub decreases-loop-place : goal.decreases-loop-place
decreases-loop-place l = length l.touches - l.place

use Rattle.std.proofs.Common.{◌≡◌, ◌<◌, ◌≤◌, ℕ, true, get_or, length}
use Rattle.er_event.specs.Lockset.{has}
use Rattle.er_shadow.proofs.refining.are_among.Given as goal

-- so far those that were found are in the list
abbrev pub invariant-loop-lock : goal.invariant-loop-lock
invariant-loop-lock l = record { within : l.found ≤ length l.some; are : (i : ℕ) → i < l.found → has l.all (get_or l.some i 0) ≡ true }

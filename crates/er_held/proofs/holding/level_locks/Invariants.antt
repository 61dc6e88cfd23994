use Rattle.std.proofs.Common.{◌≡◌, length, take}
use Rattle.er_event.specs.Lockset.{level_lock, locks_from}
use Rattle.er_held.proofs.holding.level_locks.Given as goal

-- the first locks so far
abbrev pub invariant-loop-i : goal.invariant-loop-i
invariant-loop-i l = record { size : length l.locks ≡ 31; first : take l.i l.locks ≡ locks_from (level_lock 1) l.i }

use Rattle.std.proofs.Common.{◌≡◌, ◌≤◌, ℕ, length, take, drop}
use Rattle.eraser_c.proofs.threads.copy_locks.Given as goal

-- the first locks so far, with what was behind them
abbrev pub invariant-loop-i : goal.invariant-loop-i
invariant-loop-i l = record { size : length l.locks ≡ length l.fn.locks; first : take l.i l.locks ≡ take l.i l.held; rest : (n : ℕ) → l.i ≤ n → drop n l.locks ≡ drop n l.fn.locks }

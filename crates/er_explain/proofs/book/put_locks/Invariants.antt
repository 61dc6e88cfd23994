use Rattle.std.proofs.Common.{◌≡◌, take, map, None}
use Rattle.er_explain.proofs.book.put_locks.Given as goal

abbrev pub invariant-loop-lock : goal.invariant-loop-lock
invariant-loop-lock g l = l.pairs.items ≡ map (λ x. record { lock = x; at = None }) (take l.lock-index l.locks)

use Rattle.std.proofs.Common.{◌≡◌, ◌++◌, take, flat_map}
use Rattle.er_sites.specs.Text.{kept_text}
use Rattle.er_sites.proofs.standing.put_kept_locks.Given as goal

abbrev pub invariant-loop-lock : goal.invariant-loop-lock
invariant-loop-lock l = l.out.items ≡ l.fn.out.items ++ flat_map (kept_text l.names l.write_held) (take l.lock-index l.locks)

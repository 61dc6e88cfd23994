use Rattle.std.proofs.Common.{◌≡◌, take, nat_eq}
use Rattle.indexmap.specs.IndexSet.{insert_all}
use Rattle.er_sites.proofs.mentions.add_locks.Given as goal

abbrev pub invariant-loop-lock : goal.invariant-loop-lock
invariant-loop-lock l = l.numbers.keys ≡ insert_all nat_eq l.fn.numbers.keys (take l.lock-index l.locks)

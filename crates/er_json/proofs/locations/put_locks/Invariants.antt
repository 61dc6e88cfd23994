use Rattle.std.proofs.Common.{◌≡◌, ◌++◌, take}
use Rattle.er_print.specs.Values.{values_text}
use Rattle.er_json.specs.Sarif.{lock_words}
use Rattle.er_json.proofs.locations.put_locks.Given as goal

abbrev pub invariant-loop-place : goal.invariant-loop-place
invariant-loop-place l = l.out.items ≡ l.fn.out.items ++ values_text (lock_words l.names l.writes) (take l.place l.locks)

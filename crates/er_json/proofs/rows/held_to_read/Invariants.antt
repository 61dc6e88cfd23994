use Rattle.std.proofs.Common.{◌≡◌, take}
use Rattle.std.specs.Prelude.{filter}
use Rattle.er_json.specs.Document.{is_held_to_read}
use Rattle.er_json.proofs.rows.held_to_read.Given as goal

abbrev pub invariant-loop-lock : goal.invariant-loop-lock
invariant-loop-lock l = l.locks.items ≡ filter (is_held_to_read l.write_held) (take l.lock-index l.held)

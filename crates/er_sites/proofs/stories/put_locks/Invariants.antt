use Rattle.std.proofs.Common.{◌≡◌, ◌++◌, take, flat_map, option_copied}
use Rattle.er_sites.specs.Text.{held_text}
use Rattle.er_sites.proofs.stories.put_locks.Given as goal

abbrev pub invariant-loop-lock : goal.invariant-loop-lock
invariant-loop-lock l = l.out.items ≡ l.fn.out.items ++ flat_map (held_text l.names l.race (option_copied l.own)) (take l.lock-index l.race.held)

use Rattle.std.proofs.Common.{◌≡◌, ◌++◌, take, flat_map, codes}
use Rattle.er_story.specs.Text.{held_text}
use Rattle.er_story.proofs.text.put_holding.Given as goal

abbrev pub invariant-loop-lock : goal.invariant-loop-lock
invariant-loop-lock l = l.out.items ≡ l.fn.out.items ++ (codes ", holding" ++ flat_map (held_text l.names l.write_held) (take l.lock-index l.held))

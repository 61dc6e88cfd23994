use Rattle.std.proofs.Common.{◌≡◌, ◌++◌, take, flat_map}
use Rattle.er_story.specs.Text.{turn_text}
use Rattle.er_story.proofs.text.put_turns.Given as goal

abbrev pub invariant-loop-turn : goal.invariant-loop-turn
invariant-loop-turn l = l.out.items ≡ l.fn.out.items ++ flat_map (turn_text l.names) (take l.turn-index l.turns)

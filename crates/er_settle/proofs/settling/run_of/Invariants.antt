use Rattle.std.proofs.Common.{◌≡◌, take}
use Rattle.er_settle.specs.Runs.{steps_of, replies_to}
use Rattle.er_settle.proofs.settling.run_of.Given as goal

abbrev pub invariant-loop-turn : goal.invariant-loop-turn
invariant-loop-turn l = record { steps : l.steps.items ≡ steps_of (take l.turn-index l.turns); replies : l.replies.items ≡ replies_to (take l.turn-index l.turns) }

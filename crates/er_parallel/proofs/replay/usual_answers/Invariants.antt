use Rattle.std.proofs.Common.{◌≡◌, take}
use Rattle.er_parallel.specs.Usual.{usual_answers}
use Rattle.er_parallel.proofs.replay.usual_answers.Given as goal

abbrev pub invariant-loop-step : goal.invariant-loop-step
invariant-loop-step l = l.given ≡ usual_answers (take l.step-index l.steps)

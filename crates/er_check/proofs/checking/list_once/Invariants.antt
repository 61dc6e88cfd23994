use Rattle.std.proofs.Common.{◌≡◌, All, take}
use Rattle.er_model.specs.Explanations.{times_listed}
use Rattle.er_check.proofs.checking.list_once.Given as goal

abbrev pub invariant-loop-lock : goal.invariant-loop-lock
invariant-loop-lock l = All (λ k. times_listed l.explanation.uncovered k ≡ 1) (take l.lock-index l.locks)

use Rattle.std.proofs.Common.{◌≡◌, ◌<◌, ℕ, slice_get, Some}
use Rattle.er_check.specs.Access.{access_mark}
use Rattle.er_check.specs.Claims.{FitsPair}
use Rattle.er_check.proofs.checking.pairs_fit.Given as goal

abbrev pub invariant-loop-pair : goal.invariant-loop-pair
invariant-loop-pair l =
    (j : ℕ) (pair : ℕ × ℕ) → j < l.pair-index → slice_get l.explanation.uncovered j ≡ Some pair → FitsPair (access_mark l.access) l.access.word l.explanation.join l.access.at pair

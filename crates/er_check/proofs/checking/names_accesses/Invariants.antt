use Rattle.std.proofs.Common.{◌≡◌, ◌<◌, ℕ, suc, slice_get, Some}
use Rattle.er_check.specs.Claims.{IsAccess}
use Rattle.er_check.proofs.checking.names_accesses.Given as goal

abbrev pub invariant-loop-pair : goal.invariant-loop-pair
invariant-loop-pair l =
    (j : ℕ) (pair : ℕ × ℕ) → j < l.pair-index → slice_get l.explanation.uncovered j ≡ Some pair → IsAccess l.steps l.word (suc l.explanation.join) l.k pair.1

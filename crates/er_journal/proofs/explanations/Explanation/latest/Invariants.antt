use Rattle.std.proofs.Common.{◌≡◌, map, drop}
use Rattle.er_model.specs.Explanations.{latest}
use Rattle.er_journal.proofs.explanations.Explanation.latest.Given as goal

abbrev pub invariant-loop-pair : goal.invariant-loop-pair
invariant-loop-pair l = latest l.latest (map (λ u. (u.lock, u.at)) (drop l.pair-index l.pair-items)) ≡ latest l.self.write l.self.uncovered

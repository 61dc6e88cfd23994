use Rattle.std.proofs.Common.{◌≡◌, take, map, Some}
use Rattle.er_explain.specs.Book.{name_of}
use Rattle.er_explain.specs.Naming.{named_pair}
use Rattle.er_explain.proofs.one_access.told_by.Given as goal

abbrev pub invariant-loop-pair : goal.invariant-loop-pair
invariant-loop-pair l = map (named_pair name_of) (take l.pair-index l.pair-items) ≡ map (λ u. record { lock = u.lock; at = Some u.at }) l.uncovered.items

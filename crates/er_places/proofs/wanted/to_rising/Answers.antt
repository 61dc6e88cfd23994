-- The sorted numbers are the same in another order.
use Rattle.std.proofs.Common.{◌≡◌, ◌∙◌, ℕ, List, nat_eq, ap, sym, subst, IfOk, vec_items}
use Rattle.std.specs.List.{list_any}
use Rattle.std.proofs.lemmas.Iterator.{items_from_collect}
use Rattle.std.proofs.lemmas.Iterator.Consumers.{YieldsList-from_copied, YieldsList-from_rest}
use Rattle.std.proofs.lemmas.List.Sorted.{list_any-IsPermutation}
use Rattle.er_places.proofs.wanted.to_rising.Goals as goal

pub returns-clause-same : goal.returns-clause-same
returns-clause-same c = λ n.
    let keys : List ℕ = c.args.set.now.keys in
    let same : c.in_ok-rising.rising.items ≡ keys =
    subst (λ r. IfOk r (λ w. vec_items w ≡ keys)) c.in_ok-rising.was
    (items_from_collect c.collect.result c.collect.ensures.ran (YieldsList-from_copied (YieldsList-from_rest keys cc))) in
    sym (list_any-IsPermutation (nat_eq n) c.in_ok-rising.rising.items c.sort_unstable.new.self.items c.sort_unstable.ensures.permutation)
    ∙ ap (list_any (nat_eq n)) same

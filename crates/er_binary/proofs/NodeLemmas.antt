-- The way out from a node, call by call.
use Rattle.std.proofs.Common.{◌≡◌, ◌≢◌, ◌==◌, ℕ, zero, suc, ◌-◌, List, [], ◌∷◌, true, false, refl, arith}
use Rattle.std.proofs.lemmas.Bool.Decides.{nat_tests}
use Rattle.er_binary.specs.Nodes.{node_at, way_out}
use Rattle.er_binary.specs.declared.nodes.Node.{Node}

pub way_none : (nodes : List Node) (count n : ℕ) → count ≡ 0 → way_out nodes count n ≡ []
unfolding way_out
way_none nodes zero n none = refl
way_none nodes (suc k) n none = absurd (omega arith)

pub way_end : (nodes : List Node) (count n : ℕ) → n ≡ 0 → way_out nodes count n ≡ []
unfolding way_out
way_end nodes zero n end = refl
way_end nodes (suc k) n end = let test : (n == 0) ≡ true = grind (arith, nat_tests) in rw test refl

pub way_more : (nodes : List Node) (count n : ℕ) → count ≢ 0 → n ≢ 0 → way_out nodes count n ≡ (node_at nodes n).place ∷ way_out nodes (count - 1) (node_at nodes n).caller
unfolding way_out
way_more nodes zero n some call = absurd (some refl)
way_more nodes (suc k) n some call =
    let test : (n == 0) ≡ false = grind (arith, nat_tests) in
    let e : suc k - 1 ≡ k = omega arith in rw (test, e) refl

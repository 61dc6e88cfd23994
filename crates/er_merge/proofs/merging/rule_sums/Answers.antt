-- One rule more.
use Rattle.std.proofs.Common.{◌∙◌, ◌++◌, ◌∷◌, [], ℕ, List, ap, sym, map, arith}
use Rattle.std.specs.List.{range_with_len}
use Rattle.std.proofs.lemmas.List.FromFn.{map-range_with_len_more}
use Rattle.er_merge.specs.Merging.{rule_sum}
use Rattle.er_merge.proofs.merging.rule_sums.Goals as goal

pub loop-place-preserved : goal.loop-place-preserved
loop-place-preserved c =
    let f = rule_sum c.args.parts.now in
    let k = c.loop-place.place in
    c.in_ok-push_sum.ensures ∙ ap (λ (sums : List ℕ). sums ++ c.in_ok-sum.sum ∷ []) c.loop-place.invariant
    ∙ ap (λ (sum : ℕ). map f (range_with_len 0 k) ++ sum ∷ []) c.in_ok-sum.ensures
    ∙ sym (map-range_with_len_more f 0 k k (omega arith))

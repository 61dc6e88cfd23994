-- The entries of all reports, in their order.
use Rattle.std.proofs.Common.{◌≡◌, ◌∙◌, List, ap, subst, flat_map, rules}
use Rattle.std.specs.List.Sorted.{IsPermutation, IsStable}
use Rattle.std.proofs.lemmas.List.{take_all}
use Rattle.er_merge.specs.Merging.{entries_in, place_order}
use Rattle.er_merge.specs.declared.parts.Entry.{Entry}
use Rattle.er_merge.proofs.OrderLemmas.{entries_sorted, entries_stable}
use Rattle.er_merge.proofs.merging.entries_of.Goals as goal

pub returns : goal.returns
returns c =
    let all : c.loop-part.entries.items ≡ flat_map entries_in c.args.parts.now = c.loop-part.invariant ∙ ap (flat_map entries_in) (take_all c.loop-part.part-index c.args.parts.now c.loop-part-test.false) in
    record {
      permutation = subst (λ (old : List Entry). IsPermutation old c.sort_by.new.self.items) all c.in_ok-sort_by.ensures.permutation;
      sorted = entries_sorted _ c.in_ok-sort_by.ensures.sorted (λ a r q k. search rules);
      stable = subst (λ (old : List Entry). IsStable place_order old c.sort_by.new.self.items) all (entries_stable _ _ c.in_ok-sort_by.ensures.stable (λ a r q k. search rules));
    }

-- In their order the numbers are the same.
use Rattle.std.proofs.Common.{◌∙◌, ℕ, List, ap, subst}
use Rattle.std.specs.List.Sorted.{IsPermutation}
use Rattle.std.proofs.lemmas.List.Sorted.{IsNonDecreasingBy-from_sort}
use Rattle.er_merge.specs.Merging.{gap_from}
use Rattle.er_merge.proofs.merging.gap_of.Goals as goal

pub returns : goal.returns
returns c = record {
  rising = c.sort_unstable.new.self.items;
  permutation = subst (λ (places : List ℕ). IsPermutation places c.sort_unstable.new.self.items) c.in_ok-places.ensures c.sort_unstable.ensures.permutation;
  sorted = IsNonDecreasingBy-from_sort (λ (n : ℕ). n) _ c.sort_unstable.ensures.sorted;
  is = c.gap_in-gap.ensures ∙ ap (λ (parts : ℕ). gap_from parts 1 c.deref.result.now) c.number_of_parts.ensures ∙ ap (gap_from _ 1) c.deref.ensures.value;
}

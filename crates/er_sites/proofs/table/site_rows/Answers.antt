-- Sorting changes the order alone, and puts the rows into theirs.
use Rattle.std.proofs.Common.{◌∙◌, rules}
use Rattle.std.proofs.lemmas.List.Sorted.{sum_by-IsPermutation, All-permutation}
use Rattle.er_sites.specs.Table.{races_in, IsOwnCount}
use Rattle.er_sites.proofs.RowLemmas.{rows_sorted}
use Rattle.er_sites.proofs.table.site_rows.Goals as goal

pub returns : goal.returns
returns c =
    record {
      own = All-permutation (IsOwnCount c.args.names.now c.args.lines.now) _ _ c.in_ok-sort_by.ensures.permutation c.in_ok-rows.ensures.own;
      each = λ s. sum_by-IsPermutation (races_in s) _ _ c.in_ok-sort_by.ensures.permutation ∙ c.in_ok-rows.ensures.each s;
      sorted = rows_sorted _ c.in_ok-sort_by.ensures.sorted (λ a r q k. search rules);
    }

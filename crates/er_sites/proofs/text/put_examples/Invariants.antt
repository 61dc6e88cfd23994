use Rattle.std.proofs.Common.{◌≡◌, ◌++◌, take, flat_map, slice_get}
use Rattle.er_sites.specs.Text.{example_of}
use Rattle.er_sites.specs.declared.row.SiteRow.{SiteRow}
use Rattle.er_sites.proofs.text.put_examples.Given as goal

abbrev pub invariant-loop-row : goal.invariant-loop-row
invariant-loop-row l =
    l.out.items ≡ l.fn.out.items ++ flat_map (λ (row : SiteRow). example_of l.legend.names.now l.legend.places.now (slice_get l.lines row.example)) (take l.row-index l.rows)

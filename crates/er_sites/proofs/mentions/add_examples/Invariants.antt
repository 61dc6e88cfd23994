use Rattle.std.proofs.Common.{◌≡◌, take, flat_map, nat_eq}
use Rattle.indexmap.specs.IndexSet.{insert_all}
use Rattle.er_sites.specs.Mentions.{example_mentions}
use Rattle.er_sites.proofs.mentions.add_examples.Given as goal

abbrev pub invariant-loop-row : goal.invariant-loop-row
invariant-loop-row l = l.numbers.keys ≡ insert_all nat_eq l.fn.numbers.keys (flat_map (example_mentions l.of l.places l.lines) (take l.row-index l.rows))

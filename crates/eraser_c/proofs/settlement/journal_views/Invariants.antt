use Rattle.std.proofs.Common.{◌≡◌, take}
use Rattle.std.specs.Prelude.{Ok}
use Rattle.eraser_c.specs.Settlements.{all_behind, each_in, journal_in}
use Rattle.eraser_c.proofs.settlement.journal_views.Given as goal

-- each of the handles so far has its journal
abbrev pub invariant-loop-shard : goal.invariant-loop-shard
invariant-loop-shard l = each_in (journal_in l.name) (all_behind (λ boxed. boxed.value) (take l.shard-index l.shards)) ≡ Ok l.views.items

use Rattle.std.proofs.Common.{◌≡◌, take}
use Rattle.std.specs.Prelude.{Ok}
use Rattle.eraser_c.specs.Settlements.{all_behind, each_in, seat_in}
use Rattle.eraser_c.proofs.settlement.seat_views.Given as goal

-- each of the handles so far has its seat
abbrev pub invariant-loop-seat : goal.invariant-loop-seat
invariant-loop-seat l = each_in seat_in (all_behind (λ boxed. boxed.value) (take l.seat-index l.seats)) ≡ Ok l.views.items

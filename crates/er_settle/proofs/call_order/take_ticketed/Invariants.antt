use Rattle.std.proofs.Common.{take}
use Rattle.er_settle.specs.Inner.CallOrder.{AreTaken}
use Rattle.er_settle.proofs.call_order.take_ticketed.Given as goal

abbrev pub invariant-loop-placed : goal.invariant-loop-placed
invariant-loop-placed l = AreTaken l.seats (take l.placed-index l.order) l.next.items l.turns.items

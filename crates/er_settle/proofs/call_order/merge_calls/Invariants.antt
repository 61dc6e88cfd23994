use Rattle.er_settle.specs.Inner.CallOrder.{AreByNumber}
use Rattle.er_settle.proofs.RestLemmas.{AreResting}
use Rattle.er_settle.proofs.call_order.merge_calls.Given as goal

abbrev pub invariant-loop-place : goal.invariant-loop-place
invariant-loop-place l = AreByNumber l.seats l.place-items × AreResting l.seats l.place-items l.next.items l.place-index l.initial.turns.items l.turns.items

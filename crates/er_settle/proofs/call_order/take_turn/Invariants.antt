use Rattle.er_settle.proofs.TurnLemmas.{IsTaking}
use Rattle.er_settle.proofs.call_order.take_turn.Given as goal

abbrev pub invariant-loop-at : goal.invariant-loop-at
invariant-loop-at l = IsTaking l.seat.thread l.seat.calls l.from l.initial.turns.items l.at l.turns.items

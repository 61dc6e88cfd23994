use Rattle.er_settle.specs.Inner.JournalOrder.{IsOrderSoFar, tickets_left}
use Rattle.er_settle.proofs.call_order.merge_journals.Given as goal

abbrev pub invariant-loop-place : goal.invariant-loop-place
invariant-loop-place l = IsOrderSoFar l.journals l.read.items l.order.items l.last

abbrev pub decreases-loop-place : goal.decreases-loop-place
decreases-loop-place l = tickets_left l.last

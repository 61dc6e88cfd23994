use Rattle.er_order.proofs.LockOrder.{covered-pair, covered-word}
use Rattle.er_order.proofs.locks.a_common_lock_orders.Goals as goal

pub returns-clause-pair : goal.returns-clause-pair
returns-clause-pair c = covered-pair

pub returns-clause-word : goal.returns-clause-word
returns-clause-word c = covered-word

use Rattle.er_order.proofs.Clocks.{ahead-at, clocks-decide}
use Rattle.er_order.proofs.laws.clocks_decide_order.Goals as goal

pub returns-clause-decide : goal.returns-clause-decide
returns-clause-decide c = λ acts j k a b below here is. clocks-decide acts j a here k b below is

pub returns-clause-ahead : goal.returns-clause-ahead
returns-clause-ahead c = λ acts n u k other. ahead-at acts n k u other

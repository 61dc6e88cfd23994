use Rattle.er_order.proofs.ClockLists.{lists-go_on, get-merged}
use Rattle.er_order.proofs.laws.clock_lists_stand_for_clocks.Goals as goal

pub returns-clause-step : goal.returns-clause-step
returns-clause-step c = λ lists clocks o stand. lists-go_on lists clocks stand o

pub returns-clause-merged : goal.returns-clause-merged
returns-clause-merged c = get-merged

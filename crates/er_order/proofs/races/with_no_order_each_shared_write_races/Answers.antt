use Rattle.er_order.proofs.RaceFacts.{pair-race, threads-race, idle-race}
use Rattle.er_order.proofs.races.with_no_order_each_shared_write_races.Goals as goal

pub returns-clause-pair : goal.returns-clause-pair
returns-clause-pair c = pair-race

pub returns-clause-threads : goal.returns-clause-threads
returns-clause-threads c = λ steps w n i k apart. threads-race steps w n i k apart

pub returns-clause-none : goal.returns-clause-none
returns-clause-none c = idle-race

use Rattle.er_order.proofs.RaceFacts.{more-unordered}
use Rattle.er_order.proofs.races.more_order_fewer_races.Goals as goal

pub returns : goal.returns
returns c = record { race = λ less more r w k within. more-unordered less more r w k within }

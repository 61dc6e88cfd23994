use Rattle.er_order.proofs.Growing.{latest-apart}
use Rattle.er_order.proofs.races.the_latest_reads_are_apart.Goals as goal

pub returns : goal.returns
returns c = record { apart = latest-apart }

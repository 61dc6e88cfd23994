use Rattle.er_parallel.proofs.CrewLemmas.{new-crew}
use Rattle.er_parallel.proofs.crew.Crew.new.Goals as goal

pub returns-clause-none : goal.returns-clause-none
returns-clause-none g c = new-crew c.args.config.shards c.in_ok-workers.workers.items c.in_ok-workers.ensures.fresh

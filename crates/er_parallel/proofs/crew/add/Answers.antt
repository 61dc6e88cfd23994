use Rattle.std.proofs.Common.{is_ok}
use Rattle.er_parallel.proofs.CrewLemmas.{fresh-either}
use Rattle.er_parallel.proofs.crew.add.Goals as goal

pub returns-in-Ok-clause-fresh : goal.returns-in-Ok-clause-fresh
returns-in-Ok-clause-fresh c fresh = fresh-either (is_ok c.push.result) c.args.all.now.items c.push.new.self.items c.in-Ok.worker c.push.ensures.items (rw c.in-Ok.is at c.requires) fresh

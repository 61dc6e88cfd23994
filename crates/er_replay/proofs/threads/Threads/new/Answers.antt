use Rattle.er_held.proofs.MapLemmas.{holding_empty}
use Rattle.er_replay.proofs.threads.Threads.new.Goals as goal

pub returns : goal.returns
returns c t = holding_empty c.with_hasher.result.entries t c.with_hasher.ensures.empty

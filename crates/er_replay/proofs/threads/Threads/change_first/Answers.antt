use Rattle.std.proofs.Common.{◌∙◌}
use Rattle.er_held.proofs.MapLemmas.{holding_written}
use Rattle.er_replay.proofs.threads.Threads.change_first.Goals as goal

pub returns-clause-ok : goal.returns-clause-ok
returns-clause-ok c =
    let key = c.from-key.ensures ∙ c.number.ensures.value in
    rw (← c.self.view_is, ← c.new-held.ensures, ← c.in_ok-change.ensures.ok)
    (holding_written c.self.inside.held.entries _ c.args.thread c.change.new.self (rw key at c.in_ok-insert.ensures.updates.0))

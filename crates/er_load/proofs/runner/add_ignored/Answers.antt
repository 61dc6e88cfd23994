use Rattle.er_load.specs.Inner.Scripts.{events_in_all}
use Rattle.er_load.proofs.ScriptLemmas.{around}
use Rattle.er_load.proofs.runner.add_ignored.Goals as goal

pub returns : goal.returns
unfolding events_in_all
returns c = rw (c.at.ensures, c.at-2.ensures) at (around _ _ _ _ _ _ _ c.in_ok-push.ensures.items c.in_ok-add_rounds.ensures c.in_ok-push-2.ensures.items)

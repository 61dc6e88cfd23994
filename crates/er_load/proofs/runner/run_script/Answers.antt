use Rattle.er_load.proofs.AcceptLemmas.{action-accepted}
use Rattle.er_load.proofs.CallLemmas.{scripted-none, scripted-more}
use Rattle.er_load.proofs.runner.run_script.Goals as goal

pub loop-action-init : goal.loop-action-init
loop-action-init g c = scripted-none _

pub loop-action-preserved : goal.loop-action-preserved
loop-action-preserved g c = scripted-more _ _ _ c.args.script.now c.loop-action.action-index _ _ c.loop-action.invariant c.loop-action-test.true c.action-item.is c.in_ok-make_calls.ensures.made

pub make_calls-requires : goal.make_calls-requires
make_calls-requires g c = action-accepted _ _ c.args.script.now c.loop-action.action-index _ c.requires c.loop-action.invariant c.loop-action-test.true c.action-item.is

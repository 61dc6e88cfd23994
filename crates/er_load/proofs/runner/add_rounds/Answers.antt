use Rattle.std.proofs.Common.{rules}
use Rattle.er_load.proofs.ScriptLemmas.{times-none, times-more}
use Rattle.er_load.proofs.runner.add_rounds.Goals as goal

pub loop-init : goal.loop-init
loop-init c = times-none _ _

pub loop-preserved : goal.loop-preserved
loop-preserved c = times-more _ c.loop.script.items _ c.args.round.now c.loop.counter c.loop.invariant (search rules)

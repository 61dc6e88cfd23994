use Rattle.er_load.proofs.ScriptLemmas.{words-none, words-more}
use Rattle.er_load.proofs.runner.add_words.Goals as goal

pub loop-at-init : goal.loop-at-init
loop-at-init c = words-none _ _ _

pub loop-at-preserved : goal.loop-at-preserved
loop-at-preserved c = words-more _ c.loop-at.script.items _ c.args.kind c.args.first c.loop-at.at c.loop-at.invariant (rw c.new.ensures at c.in_ok-push.ensures.items)

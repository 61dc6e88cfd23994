-- One rule more.
use Rattle.std.proofs.Common.{codes}
use Rattle.er_print.proofs.LineLemmas.{one_more}
use Rattle.er_triage.specs.Texts.{known_text}
use Rattle.er_triage.proofs.texts.known_races_text.Goals as goal

pub loop-race-preserved : goal.loop-race-preserved
loop-race-preserved c =
    one_more (known_text c.args.names.now) c.args.known.now c.loop-race.race-index c.race-item.result c.race-item.result
    (codes "# Known races, written by eraser replay --write-rules\n") c.loop-race.text.items c.put_known.new.out.items c.loop-race-test.true c.race-item.is c.loop-race.invariant c.in_ok-put_known.ensures

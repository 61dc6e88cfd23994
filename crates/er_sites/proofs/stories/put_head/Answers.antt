-- What the access did and what raced stand behind its thread.
use Rattle.std.proofs.lemmas.Result.{on_ok_weaker}
use Rattle.er_print.proofs.DigitLemmas.{put_three}
use Rattle.er_sites.specs.Text.{head_text}
use Rattle.er_sites.proofs.stories.put_head.Goals as goal

pub returns : goal.returns
unfolding head_text
returns c =
    rw (← c.race.view_is, ← c.did_text.ensures)
    (on_ok_weaker c.put-2.result (put_three c.args.out.now.items _ _ _ _ _ _ c.in_ok-put.ensures.joined c.in_ok-put_subject.ensures) c.put-2.ensures.joined)

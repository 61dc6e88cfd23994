-- The four parts, one behind another.
use Rattle.er_json.proofs.PutLemmas.{put_four}
use Rattle.er_json.specs.Sarif.{back_text}
use Rattle.er_json.proofs.results.put_back.Goals as goal

pub returns : goal.returns
unfolding back_text
returns c =
    rw (← c.race.view_is)
    (put_four _ _ _ _ _ _ _ _ _ c.in_ok-put_reasons.ensures c.in_ok-extend_from_slice.ensures.items (rw (← c.race.view_is) at c.in_ok-put_stacks.ensures) c.in_ok-put.ensures.joined)

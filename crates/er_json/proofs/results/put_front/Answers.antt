-- The three parts, one behind another.
use Rattle.er_json.proofs.PutLemmas.{put_three}
use Rattle.er_json.specs.Sarif.{front_text}
use Rattle.er_json.proofs.results.put_front.Goals as goal

pub returns : goal.returns
unfolding front_text
returns c =
    rw (← c.rule_front.ensures, ← c.cause_words.ensures, ← c.race.view_is, ← c.verb_of.ensures)
    (put_three _ _ _ _ _ _ _ c.in_ok-put.ensures.joined c.in_ok-put_deed.ensures c.in_ok-put-2.ensures.joined)

-- The two parts, one behind another.
use Rattle.er_json.proofs.PutLemmas.{put_two}
use Rattle.er_json.specs.Sarif.{place_text}
use Rattle.er_json.proofs.results.put_place.Goals as goal

pub returns : goal.returns
unfolding place_text
returns c = rw (← c.verb_of.ensures) (put_two _ _ _ _ _ c.in_ok-open_location.ensures c.in_ok-put.ensures.joined)

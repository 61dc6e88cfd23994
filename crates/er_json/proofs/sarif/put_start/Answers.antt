-- The three parts, one behind another.
use Rattle.std.proofs.Common.{codes}
use Rattle.er_json.proofs.PutLemmas.{put_three}
use Rattle.er_json.specs.Sarif.{rules_text, start_text}
use Rattle.er_json.proofs.sarif.put_start.Goals as goal

pub returns : goal.returns
unfolding start_text
returns c =
    put_three _ _ _ _ (codes "{\n\"tool\":{\"driver\":{\"name\":\"eraser\",\"rules\":[") (rules_text c.args.of) (codes ",\n\"results\":[") c.in_ok-extend_from_slice.ensures.items
    (rw c.rules_text.ensures at c.in_ok-extend_from_slice-2.ensures.items) c.in_ok-extend_from_slice-3.ensures.items

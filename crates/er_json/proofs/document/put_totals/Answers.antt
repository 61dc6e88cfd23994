-- The totals, the lost events and the end.
use Rattle.er_json.proofs.PutLemmas.{put_three}
use Rattle.er_json.specs.Document.{totals_member}
use Rattle.er_json.proofs.document.put_totals.Goals as goal

pub returns : goal.returns
unfolding totals_member
returns c = put_three _ _ _ _ _ _ _ c.in_ok-put.ensures.joined c.in_ok-put_lost.ensures c.in_ok-extend_from_slice.ensures.items

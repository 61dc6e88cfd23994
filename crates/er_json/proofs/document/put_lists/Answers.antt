-- The three lists, each behind its heading.
use Rattle.er_json.proofs.PutLemmas.{put_six}
use Rattle.er_json.specs.Document.{lists_text}
use Rattle.er_json.proofs.document.put_lists.Goals as goal

pub returns : goal.returns
unfolding lists_text
returns c =
    put_six _ _ _ _ _ _ _ _ _ _ _ _ _ c.in_ok-extend_from_slice.ensures.items c.in_ok-put_rows.ensures c.in_ok-extend_from_slice-2.ensures.items c.in_ok-put_rows-2.ensures
    c.in_ok-extend_from_slice-3.ensures.items c.in_ok-put_rows-3.ensures

-- The three parts, one behind another.
use Rattle.std.proofs.Common.{[], codes}
use Rattle.er_json.proofs.PutLemmas.{put_three}
use Rattle.er_json.specs.Sarif.{location_member, open_location}
use Rattle.er_json.proofs.locations.put_location.Goals as goal

pub returns : goal.returns
unfolding location_member
returns c =
    put_three _ _ _ _ (codes ",\"locations\":[") (open_location c.args.site.now []) (codes "}]") c.in_ok-extend_from_slice.ensures.items c.in_ok-open_location.ensures
    c.in_ok-extend_from_slice-2.ensures.items

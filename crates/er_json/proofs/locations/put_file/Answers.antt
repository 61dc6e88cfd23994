-- The five parts, one behind another.
use Rattle.std.proofs.Common.{codes, ◌+◌, take, drop, flat_map}
use Rattle.er_print.proofs.DigitLemmas.{put_five}
use Rattle.er_json.proofs.PutLemmas.{rest_all}
use Rattle.er_json.specs.Sarif.{file_member}
use Rattle.er_json.specs.Uris.{uri_byte}
use Rattle.er_json.proofs.locations.put_file.Goals as goal

pub returns : goal.returns
unfolding file_member
returns c =
    put_five _ _ _ _ _ _ (codes "{\"physicalLocation\":{\"artifactLocation\":{\"uri\":\"") (flat_map uri_byte (take c.args.place c.args.site.now))
    (codes "\"},\"region\":{\"startLine\":") (drop (c.args.place + 1) c.args.site.now) (codes "}}") c.in_ok-extend_from_slice.ensures.items c.in_ok-put_path.ensures
    c.in_ok-extend_from_slice-2.ensures.items (rw (rest_all (c.args.place + 1) c.args.site.now) at c.in_ok-extend_from_slice-3.ensures.items) c.in_ok-extend_from_slice-4.ensures.items

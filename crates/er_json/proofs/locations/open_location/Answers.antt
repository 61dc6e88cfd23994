-- The function stands behind the site.
use Rattle.std.proofs.Common.{codes}
use Rattle.std.proofs.lemmas.Result.{on_ok_weaker}
use Rattle.er_json.proofs.PutLemmas.{put_two}
use Rattle.er_json.specs.Sarif.{function_text, open_location}
use Rattle.er_print.proofs.DigitLemmas.{put_five}
use Rattle.er_print.specs.Styles.{string_text}
use Rattle.er_json.proofs.locations.open_location.Goals as goal

pub returns-in_ok-put_file-in-Some : goal.returns-in_ok-put_file-in-Some
unfolding open_location
returns-in_ok-put_file-in-Some c =
    rw (← c.in-Some.ensures) (on_ok_weaker c.put_function.result (put_two c.args.out.now.items _ _ _ _ c.in_ok-put_file-in-Some.ensures) c.put_function.ensures)

pub returns-in_ok-extend_from_slice-in-None-3 : goal.returns-in_ok-extend_from_slice-in-None-3
unfolding open_location
returns-in_ok-extend_from_slice-in-None-3 c =
    rw (← c.in-None.ensures)
    (put_five c.args.out.now.items _ _ _ _ _ (codes "{\"logicalLocations\":[{\"fullyQualifiedName\":") (string_text c.args.site.now) (codes "}") (function_text (codes ",") c.args.function.now (codes "")) (codes "]")
    c.in_ok-extend_from_slice-in-None.ensures.items c.in_ok-put_string-in-None.ensures c.in_ok-extend_from_slice-in-None-2.ensures.items c.in_ok-put_function-in-None.ensures c.in_ok-extend_from_slice-in-None-3.ensures.items)
